use Rattle.term_core.specs.View.{view}
use Rattle.reach.specs.declared.solutions.Path.{Path}
use Rattle.reach.proofs.Paths.{match_found, match_missed}
use Rattle.reach.proofs.solutions.matched.Goals as goal

pub returns-then-not-branch : goal.returns-then-not-branch
returns-then-not-branch c = match_missed (view c.args.rule.now.left) (view c.args.part.now) _ c.new.ensures (rw c.if-not-branch.true at c.in_ok-match_further.ensures.matched)

pub returns : goal.returns
returns c =
    let path : Path = record { values = c.match_further.new.values; trail = c.match_further.new.trail; by = c.new-3.result } in
    match_found (view c.args.rule.now.left) (view c.args.part.now) _ path c.new.ensures (rw c.if-not-branch.false at c.in_ok-match_further.ensures.matched) c.new-3.ensures.items
