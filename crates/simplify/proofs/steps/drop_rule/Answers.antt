use Rattle.std.proofs.Common.{sym, ap, ◌∙◌, subst, length, map, Err, arith}
use Rattle.certificates.specs.Prelude.{DoConditionsFit, dropped, bad_evidence}
use Rattle.cert_model.specs.EvidenceView.{inf_evidence_view}
use Rattle.term_core.specs.RuleView.{condition_view}
use Rattle.term_core.specs.declared.systems.Rule.{Rule}
use Rattle.judged_evidence.specs.Evidence.{IsInfeasibilityJudged}
use Rattle.cert_model.specs.ReasonView.{evidence_reason_view}
use Rattle.refuter.specs.Answers.{RefutesAnswers}
use Rattle.simplifications.specs.Simplifying.{IsRefused}
use Rattle.simplify.proofs.Replaced.{no_drop, few_here, conds_fit, good_drop, bad_drop}
use Rattle.simplify.proofs.steps.drop_rule.Goals as goal

pub returns-in_default : goal.returns-in_default
returns-in_default c =
    let s = c.rules-rules.ensures in no_drop c.args.sys.now s.sound c.rules-rules.result.now s.rules c.args.number (inf_evidence_view c.args.evidence.now) c.in_default.ensures.none

pub check_infeasible_in-requires-clause-few : goal.check_infeasible_in-requires-clause-few
check_infeasible_in-requires-clause-few c =
    let s = c.rules-rules.ensures in
    let few = few_here c.args.sys.now s.sound c.rules-rules.result.now s.rules c.in-Some.place c.index-rules-place.result c.in-Some.ensures.some.1 c.index-rules-place.is in
    let same = ap length (c.deref.ensures.value ∙ ap (λ (z : Rule). z.conds.items) (sym c.index-rules-place.is)) in omega (arith, few, same)

pub check_infeasible_in-requires-clause-fit : goal.check_infeasible_in-requires-clause-fit
check_infeasible_in-requires-clause-fit c =
    let s = c.rules-rules.ensures in
    subst (λ z. DoConditionsFit (map condition_view z)) (sym (c.deref.ensures.value ∙ ap (λ (z : Rule). z.conds.items) (sym c.index-rules-place.is)))
    (conds_fit c.args.sys.now s.sound c.rules-rules.result.now s.rules c.in-Some.place c.index-rules-place.result c.in-Some.ensures.some.1 c.index-rules-place.is)

pub returns-in-Ok : goal.returns-in-Ok
returns-in-Ok c =
    let s = c.rules-rules.ensures in
    let p = c.in-Some.ensures.some in
    good_drop c.args.sys.now s.sound c.rules-rules.result.now s.rules c.args.number c.in-Some.place c.index-rules-place.result p.0 p.1 c.index-rules-place.is (inf_evidence_view c.args.evidence.now)
    c.deref.result.now (c.deref.ensures.value ∙ ap (λ (z : Rule). z.conds.items) (sym c.index-rules-place.is)) c.in-Ok.ensures.judged

pub returns-in-Err-Reason : goal.returns-in-Err-Reason
returns-in-Err-Reason c =
    let s = c.rules-rules.ensures in
    let p = c.in-Some.ensures.some in
    let e = inf_evidence_view c.args.evidence.now in
    subst (λ z. IsRefused c.args.sys.now (dropped c.args.number e) (bad_evidence (evidence_reason_view z))) (sym c.in-Err-Reason.reason-is)
    (bad_drop c.args.sys.now s.sound c.rules-rules.result.now s.rules c.args.number c.in-Some.place c.index-rules-place.result p.0 p.1 c.index-rules-place.is e
    (evidence_reason_view c.in-Err-Reason.reason)
    c.deref.result.now (c.deref.ensures.value ∙ ap (λ (z : Rule). z.conds.items) (sym c.index-rules-place.is))
    (subst (λ z. RefutesAnswers (IsInfeasibilityJudged c.args.sys.now (map condition_view c.deref.result.now) e) (Err z)) c.in-Err-Reason.field-0-is c.in-Err-Reason.ensures.judged))
