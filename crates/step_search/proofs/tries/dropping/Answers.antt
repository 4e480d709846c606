use Rattle.std.proofs.Common.{Err, subst}
use Rattle.certificates.specs.Certificates.{dropped}
use Rattle.cert_model.specs.EvidenceView.{inf_evidence_view}
use Rattle.cert_model.specs.ReasonView.{simp_reason_view}
use Rattle.simplifications.proofs.OneAnswer.{never_both_steps}
use Rattle.simplify.specs.Answers.{StepAnswers}
use Rattle.step_search.proofs.tries.dropping.Goals as goal

pub returns-in-Err-Refused : goal.returns-in-Err-Refused
returns-in-Err-Refused c =
    λ next h. never_both_steps c.args.sys.now (dropped c.args.rule (inf_evidence_view c.args.evidence)) next (simp_reason_view c.in-Err-Refused.field-0-0) h
    (subst (λ z. StepAnswers c.args.sys.now (dropped c.args.rule (inf_evidence_view c.args.evidence)) (Err z)) c.in-Err-Refused.field-0-is c.in-Err-Refused.ensures)
