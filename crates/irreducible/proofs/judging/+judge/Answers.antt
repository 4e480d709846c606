use Rattle.std.proofs.Common.{◌≡◌, ◌<◌, ◌≤◌, subst, length, get_or, Ok}
use Rattle.rewriting.specs.Terms.{size}
use Rattle.term_core.specs.View.{view}
use Rattle.term_core.proofs.Sizes.{size_inside}
use Rattle.irreducible.specs.Judging.{RootAnswers, JudgeAnswers}
use Rattle.irreducible.proofs.Parts.{Judged, judged_none, judged_next, judge_whole, judge_variable, judge_root_other, judge_part_other, argument_fits}
use Rattle.irreducible.proofs.judging.+judge.Goals as goal

pub judge-requires : goal.judge-requires
judge-requires t c =
    let items = c.deref-arg-items.ensures.value in
    let here : c.loop-arg.arg-index < length c.in-Fun.args.items = subst (λ z. c.loop-arg.arg-index < length z) items c.loop-arg-test.true in
    let at : c.arg-item.result ≡ get_or c.in-Fun.args.items c.loop-arg.arg-index c.arg-item.result = subst
    (λ z. c.arg-item.result ≡ get_or z c.loop-arg.arg-index c.arg-item.result) items c.arg-item.is in (
      subst (λ z. size (view c.arg-item.result) < z) c.decreases (size_inside c.args.part.now c.in-Fun.f c.in-Fun.args c.deref-arg-items.result.now c.loop-arg.arg-index
          c.arg-item.result c.in-Fun.is items c.loop-arg-test.true c.arg-item.is),
      argument_fits c.args.part.now c.in-Fun.f c.in-Fun.args c.loop-arg.arg-index c.arg-item.result c.in-Fun.is here at c.requires,
    )

pub returns-in-Var : goal.returns-in-Var
returns-in-Var t c = judge_variable c.args.sys.now c.args.part.now c.in-Var.field-0 c.in-Var.is

pub returns-in_default : goal.returns-in_default
returns-in_default t c = judge_root_other c.args.sys.now c.args.part.now c.in-Fun.f c.in-Fun.args c.in_ok-other-in-Fun.other c.in-Fun.is c.in_default.not-Yes c.in_ok-other-in-Fun.ensures

pub loop-arg-init : goal.loop-arg-init
loop-arg-init t c = judged_none c.args.sys.now c.deref-arg-items.result.now

pub returns-in_default-2 : goal.returns-in_default-2
returns-in_default-2 t c =
    let items = c.deref-arg-items.ensures.value in
    judge_part_other c.args.sys.now c.args.part.now c.in-Fun.f c.in-Fun.args c.loop-arg.arg-index c.arg-item.result c.in_ok-other-in-Fun-2.other c.in-Fun.is
    (subst (λ z. c.loop-arg.arg-index < length z) items c.loop-arg-test.true)
    (subst (λ z. c.arg-item.result ≡ get_or z c.loop-arg.arg-index c.arg-item.result) items c.arg-item.is) c.in_default-2.not-Yes
    (λ s e. subst (λ z. RootAnswers c.args.sys.now s (Ok z)) c.in-Yes.is (c.in_ok-other-in-Fun.ensures s e))
    (subst (λ z. Judged c.args.sys.now z c.loop-arg.arg-index) items c.loop-arg.invariant) c.in_ok-other-in-Fun-2.ensures

pub loop-arg-preserved : goal.loop-arg-preserved
loop-arg-preserved t c =
    judged_next c.args.sys.now c.deref-arg-items.result.now c.loop-arg.arg-index c.arg-item.result c.arg-item.is c.loop-arg.invariant
    (λ s e. subst (λ z. JudgeAnswers c.args.sys.now s (Ok z)) c.in-Yes-2.is (c.in_ok-other-in-Fun-2.ensures s e))

pub returns-after-loop-arg : goal.returns-after-loop-arg
returns-after-loop-arg t c =
    let items = c.deref-arg-items.ensures.value in
    judge_whole c.args.sys.now c.args.part.now c.in-Fun.f c.in-Fun.args c.loop-arg.arg-index c.in-Fun.is (subst (λ z. length z ≤ c.loop-arg.arg-index) items c.loop-arg-test.false)
    (λ s e. subst (λ z. RootAnswers c.args.sys.now s (Ok z)) c.in-Yes.is (c.in_ok-other-in-Fun.ensures s e))
    (subst (λ z. Judged c.args.sys.now z c.loop-arg.arg-index) items c.loop-arg.invariant)
