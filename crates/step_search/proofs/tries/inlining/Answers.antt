use Rattle.std.proofs.Common.{Err, subst}
use Rattle.certificates.specs.Certificates.{inlined}
use Rattle.cert_model.specs.ReasonView.{simp_reason_view}
use Rattle.simplifications.proofs.OneAnswer.{never_both_steps}
use Rattle.simplify.specs.Answers.{StepAnswers}
use Rattle.step_search.proofs.tries.inlining.Goals as goal

pub returns-in-Err-Refused : goal.returns-in-Err-Refused
returns-in-Err-Refused c =
    λ next h. never_both_steps c.args.sys.now (inlined c.args.rule c.args.cond) next (simp_reason_view c.in-Err-Refused.field-0-0) h
    (subst (λ z. StepAnswers c.args.sys.now (inlined c.args.rule c.args.cond) (Err z)) c.in-Err-Refused.field-0-is
    (subst (λ s. StepAnswers s (inlined c.args.rule c.args.cond) (Err c.in-Err-Refused.field-0)) c.system.ensures c.in-Err-Refused.ensures))
