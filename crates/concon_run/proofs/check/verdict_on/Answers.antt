use Rattle.std.proofs.Common.{Ok, Err, subst}
use Rattle.certificates.specs.Certificates.{Certificate}
use Rattle.valid_certificates.specs.CarriedBack.{IsPeakApart}
use Rattle.cert_grammar.specs.CertificateText.{IsCertificateText}
use Rattle.cert_check.specs.Answers.{OnNo}
use Rattle.cert_check.specs.Bytes.{BytesAnswers}
use Rattle.cert_check.specs.declared.bytes.BytesError.{BytesError}
use Rattle.run_parts.specs.Bytes.{told_or_any}
use Rattle.concon_run.proofs.Checks.{cert_not_read, cert_rejected, body_rejected, cert_judged}
use Rattle.concon_run.proofs.check.verdict_on.Goals as goal

pub check_bytes-requires : goal.check_bytes-requires
check_bytes-requires g c = record { names = c.one_reading.ensures.named c.requires.0 c.args.sys.now c.args.names c.requires.1 }

pub returns-in-Err-clause-answers : goal.returns-in-Err-clause-answers
returns-in-Err-clause-answers g c = cert_not_read _ _ c.args.sys.now c.args.names c.in-Err.error c.in-Err.ensures.fault c.in-Err.ensures.longer

pub returns-in-Ok-check_bytes-clause-answers : goal.returns-in-Ok-check_bytes-clause-answers
returns-in-Ok-check_bytes-clause-answers g c =
    let v = c.in-Ok-check_bytes.verdict in
    cert_judged (told_or_any (g.S.Shelf.contents c.args.shelf.now c.args.cert.now)) (Unit {0}) c.args.sys.now c.args.names c.in-Ok.bytes.items c.in-Ok.ensures.all c.in-Ok.ensures.limit
    (c.one_reading.ensures.told c.requires.0 c.args.sys.now c.args.names c.requires.1) v
    (subst (λ b. BytesAnswers c.args.sys.now c.args.names b (Ok v)) c.deref.ensures.value c.in-Ok-check_bytes.ensures.answers) c.in-Ok-check_bytes.ensures.yes
    c.in-Ok-check_bytes.ensures.file
    (subst (λ b. OnNo {E = BytesError} (Ok v) ((d : Certificate) × IsCertificateText c.args.names b d × IsPeakApart c.args.sys.now d)) c.deref.ensures.value c.in-Ok-check_bytes.ensures.no)

pub returns-in-Err-Rejected-clause-answers : goal.returns-in-Err-Rejected-clause-answers
returns-in-Err-Rejected-clause-answers g c =
    cert_rejected (told_or_any (g.S.Shelf.contents c.args.shelf.now c.args.cert.now)) (Unit {0}) c.args.sys.now c.args.names c.in-Ok.bytes.items c.in-Ok.ensures.all c.in-Ok.ensures.limit
    c.in-Err-Rejected.reason
    (subst (λ e. BytesAnswers c.args.sys.now c.args.names c.in-Ok.bytes.items (Err e)) c.in-Err-Rejected.field-0-is
    (subst (λ b. BytesAnswers c.args.sys.now c.args.names b (Err c.in-Err-Rejected.field-0)) c.deref.ensures.value c.in-Err-Rejected.ensures.answers))

pub returns-in-Err-RejectedBehindSteps-clause-answers : goal.returns-in-Err-RejectedBehindSteps-clause-answers
returns-in-Err-RejectedBehindSteps-clause-answers g c =
    body_rejected (told_or_any (g.S.Shelf.contents c.args.shelf.now c.args.cert.now)) (Unit {0}) c.args.sys.now c.args.names c.in-Ok.bytes.items c.in-Ok.ensures.all c.in-Ok.ensures.limit
    c.in-Err-RejectedBehindSteps.reason
    (subst (λ e. BytesAnswers c.args.sys.now c.args.names c.in-Ok.bytes.items (Err e)) c.in-Err-RejectedBehindSteps.field-0-is
    (subst (λ b. BytesAnswers c.args.sys.now c.args.names b (Err c.in-Err-RejectedBehindSteps.field-0)) c.deref.ensures.value c.in-Err-RejectedBehindSteps.ensures.answers))
