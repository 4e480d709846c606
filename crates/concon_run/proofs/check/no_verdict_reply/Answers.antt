use Rattle.std.proofs.Common.{sym, subst, Err}
use Rattle.concon_run.specs.Check.{said_of_check}
use Rattle.cert_model.specs.ReasonView.{rejected_view}
use Rattle.concon_run.specs.Checking.{check_answer, rejected_said}
use Rattle.concon_run.specs.Replies.{reply_said, said_if_any}
use Rattle.concon_run.specs.Said.{IsSaidIfMemory}
use Rattle.concon_run.proofs.Checks.{no_system_says, refused_cert_says}
use Rattle.concon_run.proofs.check.no_verdict_reply.Goals as goal

pub returns-in-NoSystem : goal.returns-in-NoSystem
returns-in-NoSystem c =
    subst (λ w. IsSaidIfMemory (said_if_any (said_of_check c.args.check.file.now c.args.check.cert.now) (check_answer (Err w))) (reply_said c.no_system_reply.result)) (sym c.in-NoSystem.is)
    (no_system_says c.args.check.file.now c.args.check.cert.now c.in-NoSystem.error (reply_said c.no_system_reply.result) c.no_system_reply.ensures)

pub returns-in-CertRefused : goal.returns-in-CertRefused
returns-in-CertRefused c =
    subst (λ w. IsSaidIfMemory (said_if_any (said_of_check c.args.check.file.now c.args.check.cert.now) (check_answer (Err w))) (reply_said c.refused.result)) (sym c.in-CertRefused.is)
    (refused_cert_says c.args.check.file.now c.args.check.cert.now c.in-CertRefused.error _ _ c.cert_refusal.ensures c.refused.ensures)

pub returns-in-Rejected : goal.returns-in-Rejected
returns-in-Rejected c =
    subst (λ w. IsSaidIfMemory (said_if_any (said_of_check c.args.check.file.now c.args.check.cert.now) (check_answer (Err w))) (reply_said c.rejected.result)) (sym c.in-Rejected.is)
    (subst (λ n. IsSaidIfMemory (rejected_said n (rejected_view c.in-Rejected.reason)) (reply_said c.rejected.result)) c.as_ref.ensures.value c.rejected.ensures)
