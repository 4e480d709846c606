use Rattle.std.proofs.Common.{refl, sym, subst}
use Rattle.term_core.specs.JoinAnswers.{DoJoinsFit}
use Rattle.term_core.proofs.JoinRules.{conditions_drop}
use Rattle.term_core.proofs.joins.do_joins_fit.Goals as goal

pub returns-then-not-does_join_fit : goal.returns-then-not-does_join_fit
returns-then-not-does_join_fit c =
    let next = conditions_drop c.args.conds.now c.loop-cond.cond-index c.cond-item.result c.loop-cond-test.true c.cond-item.is in
    ((λ e. absurd (cc)), (λ h. c.if-not-does_join_fit.ensures.1 (subst DoJoinsFit next (c.loop-cond.invariant.0 h)).0))

pub loop-cond-preserved : goal.loop-cond-preserved
loop-cond-preserved c =
    let next = conditions_drop c.args.conds.now c.loop-cond.cond-index c.cond-item.result c.loop-cond-test.true c.cond-item.is in
    ((λ h. (subst DoJoinsFit next (c.loop-cond.invariant.0 h)).1), (λ h. c.loop-cond.invariant.1 (subst DoJoinsFit (sym next) (c.if-not-does_join_fit.ensures.0 refl, h))))
