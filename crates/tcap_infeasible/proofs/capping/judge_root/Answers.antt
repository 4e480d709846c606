use Rattle.std.proofs.Common.{◌-◌, get_or, subst, Ok}
use Rattle.std.proofs.Math.ListN.{drop_of_length-le}
use Rattle.unifier_run.specs.Run.{unifier, too_large}
use Rattle.term_core.specs.View.{view}
use Rattle.caps.specs.Caps.{frozen}
use Rattle.tcap_infeasible.specs.Frozen.{LeftAnswers}
use Rattle.tcap_infeasible.proofs.Filled.{held_linear}
use Rattle.tcap_infeasible.proofs.Rebased.{first_unifier, first_large}
use Rattle.tcap_infeasible.proofs.Tried.{tried_none, tried_all}
use Rattle.tcap_infeasible.proofs.Roots.{number_low, number_high, is_number, left_fits, left_linear, left_apart, first_at, one_tried}
use Rattle.tcap_infeasible.proofs.capping.judge_root.Goals as goal

pub loop-number-init : goal.loop-number-init
loop-number-init c = tried_none c.args.sys.now c.args.f (view c.args.part.now) _ c.with_root-number-items.ensures

pub overflow_sub-left : goal.overflow_sub-left
overflow_sub-left c = number_low c.args.sys.now c.args.f (view c.args.part.now) _ c.loop-number.number-index c.rules-rules.ensures.sound c.loop-number.invariant c.loop-number-test.true

pub bounds-rules-number : goal.bounds-rules-number
bounds-rules-number c = number_high c.args.sys.now c.args.f (view c.args.part.now) _ c.loop-number.number-index c.rules-rules.ensures.sound _ c.rules-rules.ensures.rules
    c.loop-number.invariant c.loop-number-test.true

pub is_left_linear-requires : goal.is_left_linear-requires
is_left_linear-requires c = is_number c.args.sys.now c.args.f (view c.args.part.now) _ c.loop-number.number-index c.rules-rules.ensures.sound c.loop-number.invariant c.loop-number-test.true

pub judge_left-requires-clause-left_fits : goal.judge_left-requires-clause-left_fits
judge_left-requires-clause-left_fits c = left_fits c.args.sys.now c.args.f (view c.args.part.now) _ c.loop-number.number-index c.rules-rules.ensures.sound _
    c.index-rules-number.result c.rules-rules.ensures.rules c.loop-number.invariant c.loop-number-test.true

pub judge_left-requires-clause-left_linear : goal.judge_left-requires-clause-left_linear
judge_left-requires-clause-left_linear c = left_linear c.args.sys.now c.args.f (view c.args.part.now) _ c.loop-number.number-index c.rules-rules.ensures.sound _
    c.index-rules-number.result c.is_left_linear.result c.rules-rules.ensures.rules c.loop-number.invariant c.loop-number-test.true c.is_left_linear.ensures

pub judge_left-requires-clause-linear : goal.judge_left-requires-clause-linear
judge_left-requires-clause-linear c = held_linear c.args.sys.now c.args.f (view c.args.part.now) c.requires.start c.requires.cap c.requires.held

pub judge_left-requires-clause-apart : goal.judge_left-requires-clause-apart
judge_left-requires-clause-apart c = left_apart c.args.sys.now c.args.f (view c.args.part.now) _ c.loop-number.number-index c.rules-rules.ensures.sound _
    c.index-rules-number.result c.rules-rules.ensures.rules c.loop-number.invariant c.loop-number-test.true c.requires.start c.requires.cap c.requires.held

pub returns-in-Opens : goal.returns-in-Opens
returns-in-Opens c =
    let a = subst (λ z. LeftAnswers (view (get_or c.rules-rules.result.now (get_or c.with_root-number-items.result.now c.loop-number.number-index 0 - 1)
    c.index-rules-number.result).left) (view c.args.part.now) (Ok z)) c.in-Opens.is c.in_ok-judge_left.ensures in
    λ n cap held. first_unifier c.args.sys.now (frozen c.args.sys.now cap) a.0
    (first_at c.args.sys.now c.args.f (view c.args.part.now) _ c.loop-number.number-index c.rules-rules.ensures.sound _ c.index-rules-number.result
    (unifier a.0) c.rules-rules.ensures.rules c.loop-number.invariant c.loop-number-test.true a.1 n cap held)

pub returns-in-Passes : goal.returns-in-Passes
returns-in-Passes c =
    let a = subst (λ z. LeftAnswers (view (get_or c.rules-rules.result.now (get_or c.with_root-number-items.result.now c.loop-number.number-index 0 - 1)
    c.index-rules-number.result).left) (view c.args.part.now) (Ok z)) c.in-Passes.is c.in_ok-judge_left.ensures in
    λ n cap held. first_large c.args.sys.now (frozen c.args.sys.now cap)
    (first_at c.args.sys.now c.args.f (view c.args.part.now) _ c.loop-number.number-index c.rules-rules.ensures.sound _ c.index-rules-number.result too_large
    c.rules-rules.ensures.rules c.loop-number.invariant c.loop-number-test.true a n cap held)

pub loop-number-preserved : goal.loop-number-preserved
loop-number-preserved c =
    let a = subst (λ z. LeftAnswers (view (get_or c.rules-rules.result.now (get_or c.with_root-number-items.result.now c.loop-number.number-index 0 - 1)
    c.index-rules-number.result).left) (view c.args.part.now) (Ok z)) c.in-Stays.is c.in_ok-judge_left.ensures in
    one_tried c.args.sys.now c.args.f (view c.args.part.now) _ c.loop-number.number-index c.rules-rules.ensures.sound _ c.index-rules-number.result c.rules-rules.ensures.rules
    c.loop-number.invariant c.loop-number-test.true a

pub returns : goal.returns
returns c = tried_all c.args.sys.now c.args.f (view c.args.part.now) _ c.loop-number.number-index c.rules-rules.ensures.sound c.loop-number.invariant (drop_of_length-le _ c.loop-number-test.false)
