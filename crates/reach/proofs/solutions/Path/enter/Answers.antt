use Rattle.std.proofs.Common.{refl, arith}
use Rattle.term_core.specs.RuleView.{condition_view}
use Rattle.reach.specs.EntryView.{entry_view}
use Rattle.reach.specs.declared.solutions.Path.{Path}
use Rattle.reach.proofs.Paths.{entered, missed}
use Rattle.reach.proofs.solutions.Path.enter.Goals as goal

pub returns-then-not-branch : goal.returns-then-not-branch
returns-then-not-branch c =
    let bound : Path = record { values = c.match_further.new.values; trail = c.match_further.new.trail; by = c.args.self.now.by } in
    missed (condition_view c.args.cond.now) (entry_view c.args.w.now) c.args.self.now bound c.in_ok-match_further.ensures.noted _ c.len-from.result
    (rw c.if-not-branch.true at c.in_ok-match_further.ensures.matched) (omega arith) c.take_back.ensures.values c.take_back.ensures.trail refl

pub returns : goal.returns
returns c =
    let bound : Path = record { values = c.match_further.new.values; trail = c.match_further.new.trail; by = c.push.new.self } in
    entered (condition_view c.args.cond.now) (entry_view c.args.w.now) c.args.self.now bound c.in_ok-match_further.ensures.noted c.in_ok-share.field-0
    (rw c.if-not-branch.false at c.in_ok-match_further.ensures.matched) c.in_ok-push.ensures.items c.in_ok-share.ensures
