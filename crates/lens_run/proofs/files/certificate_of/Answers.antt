use Rattle.std.proofs.Common.{inl, inr, subst}
use Rattle.cert_words.specs.CertRefusals.{IsRefusedAs}
use Rattle.refusal_texts.specs.Certificates.{cert_refusal_text}
use Rattle.run_parts.specs.Bytes.{most_cert_bytes}
use Rattle.lens_run.specs.Runs.{IsSaidRefused}
use Rattle.lens_run.specs.Said.{reply_said}
use Rattle.lens_run.specs.declared.status.Status.TheVariants as status
use Rattle.lens_run.proofs.Unread.{unread}
use Rattle.lens_run.proofs.Causes.{cert_refused}
use Rattle.lens_run.proofs.files.certificate_of.Goals as goal

pub returns-in-Err-clause-none : goal.returns-in-Err-clause-none
returns-in-Err-clause-none g c =
    elim (unread _ most_cert_bytes _ status.CertRefused c.args.cert.now (reply_said c.unread.result) c.in-Err.error c.in-Err.ensures.fault c.in-Err.ensures.longer c.unread.ensures)
    [ inl long ↦ inl (long.0, long.1, inl (long.2, long.3)) | inr none ↦ inr none ]

pub returns-clause-none : goal.returns-clause-none
returns-clause-none g c =
    cert_refused _ _ c.args.cert.now c.in-Ok.bytes.items c.in-Ok.ensures.all (reply_said c.refused.result) c.args.names.now c.in-Err-read_cert.error
    (subst (λ b. IsRefusedAs c.args.names.now b c.in-Err-read_cert.error) c.deref.ensures.value c.in-Err-read_cert.ensures.refused)
    (subst (λ b. IsSaidRefused status.CertRefused c.args.cert.now b (cert_refusal_text c.in-Err-read_cert.error) (reply_said c.refused.result)) c.deref-in-Err-read_cert.ensures.value
    (subst (λ o. IsSaidRefused status.CertRefused c.args.cert.now c.deref-in-Err-read_cert.result.now o (reply_said c.refused.result)) c.cert_refusal.ensures c.refused.ensures))
