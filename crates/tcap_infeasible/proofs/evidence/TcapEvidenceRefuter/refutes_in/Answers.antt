use Rattle.std.proofs.Common.{◌∙◌, length, map, ap, sym, subst, inr, Ok}
use Rattle.unifier_run.specs.Run.{unifier, clash, too_large}
use Rattle.term_core.specs.Prelude.{views, condition_view}
use Rattle.unification.specs.Answers.{UnifyAnswers}
use Rattle.rewriting.specs.Rules.{right_sides}
use Rattle.tcap_infeasible.specs.Comparing.{LeftsAnswer, HaveRow}
use Rattle.tcap_infeasible.proofs.Apart.{judged_run, same_length}
use Rattle.tcap_infeasible.proofs.evidence.TcapEvidenceRefuter.refutes_in.Goals as goal

pub unify-requires : goal.unify-requires
unify-requires c =
    let cs = map condition_view c.args.conds.now in
    let l = subst (λ z. LeftsAnswer c.args.sys.now cs (Ok z)) c.in-Some.is c.in_ok-lefts.ensures in
    ap length c.deref.ensures.value ∙ (same_length c.args.sys.now cs l.0 c.in-Some.lefts.items c.in_ok-rights.rights.items l.1 l.2 c.in_ok-rights.ensures ∙ sym (ap length c.deref-2.ensures.value))

pub returns-in-Clash : goal.returns-in-Clash
returns-in-Clash c =
    let cs = map condition_view c.args.conds.now in
    let l = subst (λ z. LeftsAnswer c.args.sys.now cs (Ok z)) c.in-Some.is c.in_ok-lefts.ensures in
    let a = subst (λ z. UnifyAnswers (views c.deref.result.now) (views c.deref-2.result.now) (Ok z)) c.in-Clash.is c.in_ok-unify.ensures in
    judged_run c.args.sys.now cs l.0 (views c.deref.result.now) (views c.deref-2.result.now) clash l.1 (ap views c.deref.ensures.value ∙ l.2)
    (subst (λ z. HaveRow (right_sides cs) (views z)) (sym c.deref-2.ensures.value) c.in_ok-rights.ensures) a.0

pub returns-in-Mgu : goal.returns-in-Mgu
returns-in-Mgu c =
    let cs = map condition_view c.args.conds.now in
    let l = subst (λ z. LeftsAnswer c.args.sys.now cs (Ok z)) c.in-Some.is c.in_ok-lefts.ensures in
    let a = subst (λ z. UnifyAnswers (views c.deref.result.now) (views c.deref-2.result.now) (Ok z)) c.in-Mgu.is c.in_ok-unify.ensures in (
      _,
      judged_run c.args.sys.now cs l.0 (views c.deref.result.now) (views c.deref-2.result.now) (unifier a.0.0) l.1 (ap views c.deref.ensures.value ∙ l.2)
          (subst (λ z. HaveRow (right_sides cs) (views z)) (sym c.deref-2.ensures.value) c.in_ok-rights.ensures) a.0.1,
    )

pub returns : goal.returns
returns c =
    let cs = map condition_view c.args.conds.now in
    let l = subst (λ z. LeftsAnswer c.args.sys.now cs (Ok z)) c.in-Some.is c.in_ok-lefts.ensures in
    let a = subst (λ z. UnifyAnswers (views c.deref.result.now) (views c.deref-2.result.now) (Ok z)) c.in-TooLarge.is c.in_ok-unify.ensures in
    inr (judged_run c.args.sys.now cs l.0 (views c.deref.result.now) (views c.deref-2.result.now) too_large l.1 (ap views c.deref.ensures.value ∙ l.2)
    (subst (λ z. HaveRow (right_sides cs) (views z)) (sym c.deref-2.ensures.value) c.in_ok-rights.ensures) a)
