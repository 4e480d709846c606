use Rattle.std.proofs.Common.{◌+◌, ◌∙◌, sym, ap, drop, map}
use Rattle.rewriting.specs.Prelude.{cons, sides, with_variables_of}
use Rattle.term_core.specs.View.{view}
use Rattle.term_core.specs.RuleView.{condition_view}
use Rattle.term_core.specs.Numbering.{numbers_from}
use Rattle.term_core.proofs.Conditions.{sides-drop}
use Rattle.term_core.proofs.Numbers.{stuck_at, none_holds}
use Rattle.term_core.proofs.soundness.known_after_all.Goals as goal

pub returns-in_err-next-clause-none : goal.returns-in_err-next-clause-none
returns-in_err-next-clause-none c =
    let cond = c.cond-item.result in
    let later = sides (map condition_view (drop (c.loop-cond.cond-index + 1) c.args.conds.now)) in
    let here = sides-drop c.args.conds.now c.loop-cond.cond-index cond c.loop-cond-test.true c.cond-item.is in
    let all = rw here at c.loop-cond.invariant.same in
    none_holds c.from_residual.result (stuck_at (numbers_from 0 c.loop-cond.next) _ (view cond.left) (cons (view cond.right) later) all c.in_err-next.ensures.none)

pub returns-in_err-next-2-clause-none : goal.returns-in_err-next-2-clause-none
returns-in_err-next-2-clause-none c =
    let cond = c.cond-item.result in
    let later = sides (map condition_view (drop (c.loop-cond.cond-index + 1) c.args.conds.now)) in
    let here = sides-drop c.args.conds.now c.loop-cond.cond-index cond c.loop-cond-test.true c.cond-item.is in
    let all = rw here at c.loop-cond.invariant.same in
    let left = sym (ap (λ xs. with_variables_of xs (cons (view cond.right) later)) c.in_ok-next.ensures.some.are) ∙ all in
    none_holds c.from_residual-in_err-next-2.result (stuck_at (numbers_from 0 c.in_ok-next.next) _ (view cond.right) later left c.in_err-next-2.ensures.none)
