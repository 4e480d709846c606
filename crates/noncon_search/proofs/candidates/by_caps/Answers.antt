use Rattle.term_core.specs.View.{view}
use Rattle.noncon_search.proofs.Apart.{not_by_caps}
use Rattle.noncon_search.proofs.candidates.by_caps.Goals as goal

pub returns-then-second : goal.returns-then-second
returns-then-second c =
    not_by_caps c.args.sys.now (view c.args.first.now.listed.now.term) (view c.args.second.now.listed.now.term) c.requires.tries (c.requires.ends.met.0.0 c.if-second.true)

pub returns-then-branch : goal.returns-then-branch
returns-then-branch c = (c.requires.tries, rw c.if-branch.true at c.in_ok-caps_clash.ensures)

pub returns-else-branch : goal.returns-else-branch
returns-else-branch c =
    not_by_caps c.args.sys.now (view c.args.first.now.listed.now.term) (view c.args.second.now.listed.now.term) c.requires.tries (rw c.if-branch.false at c.in_ok-caps_clash.ensures)
