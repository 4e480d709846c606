-- What the parts of a check answer.
use Rattle.std.specs.Prelude.{◌≡◌, [], Option, Some, None, IfSome, option_map, Result, Ok, Err}
use Rattle.rewriting.specs.Rules.{System}
use Rattle.certificates.specs.Certificates as math
use Rattle.certificates.specs.Reasons.{Rejection}
use Rattle.valid_certificates.specs.Certificates.{IsValid, IsRejected}
use Rattle.valid_certificates.specs.CarriedBack.{IsPeakApart}
use Rattle.cops_names.specs.NameTable.{NameTable}
use Rattle.cert_model.specs.ReasonView.{rejected_view}
use Rattle.cert_check.specs.Kinds.{verdict_of}
use Rattle.cert_check.specs.declared.Verdict.{Verdict}
use Rattle.cert_check.specs.declared.Verdict.TheVariants as verdict
use Rattle.cc_io.specs.declared.shelf.ReadAllError.TheVariants as reading
use Rattle.run_parts.specs.Bytes.{Bytes, SpellsCertificate}
use Rattle.concon_run.specs.Rejections.{rejected_line}
use Rattle.concon_run.specs.CertRefusals.{long_certificate, cert_refusal_of}
use Rattle.concon_run.specs.Said.{Said}
use Rattle.concon_run.specs.Systems.{IsWhollyConfluent}
use Rattle.concon_run.specs.Files.{no_system_answer}
use Rattle.concon_run.specs.Check.{names_judged, IsRefusedCertificate, no_system, no_certificate, rejected, shown, CheckAnswer, checked, file_unread, cert_unread}
use Rattle.concon_run.specs.declared.check.NoVerdict.{NoVerdict}
use Rattle.concon_run.specs.declared.check.NoVerdict.TheVariants as why
use Rattle.concon_run.specs.declared.status.Status.TheVariants as status

-- what it shows that a certificate is valid, of which this is the text
abbrev pub IsShownBy : Bytes → System → NameTable → Verdict → Type 0
IsShownBy cert sys names verdict.Yes = IsWhollyConfluent sys
IsShownBy cert sys names verdict.No = (c : math.Certificate) × SpellsCertificate cert names c × IsPeakApart sys c

-- the text is that of a valid certificate, or is refused, or is that of one that is rejected
abbrev pub CertificateAnswers : Bytes → Type 0 → System → NameTable → Result Verdict NoVerdict → Type 0
CertificateAnswers cert failed sys names (Ok v) = (c : math.Certificate) × SpellsCertificate cert names c × IsValid sys c × (v ≡ verdict_of c) × IsShownBy cert sys names v
CertificateAnswers cert failed sys names (Err (why.CertUnread reading.ReadFault)) = failed
CertificateAnswers cert failed sys names (Err (why.CertUnread (reading.TooLong n))) = IsRefusedCertificate cert names long_certificate
CertificateAnswers cert failed sys names (Err (why.CertUnread reading.NoMemory)) = Unit {0}
CertificateAnswers cert failed sys names (Err (why.CertRefused e)) = IfSome (cert_refusal_of e) (IsRefusedCertificate cert names)
CertificateAnswers cert failed sys names (Err (why.Rejected judged reason)) =
    (c : math.Certificate) × SpellsCertificate cert names c × IsRejected sys c (rejected_view reason) × (judged ≡ names_judged names c (rejected_view reason))
CertificateAnswers cert failed sys names (Err why.NoMemory) = Unit {0}
CertificateAnswers cert failed sys names (Err (why.NoSystem e)) = ⊥

-- what is answered; for want of memory nothing
abbrev pub check_answer : Result Verdict NoVerdict → Option CheckAnswer
check_answer (Ok v) = Some (checked (shown v))
check_answer (Err (why.NoSystem e)) = no_system_answer file_unread (λ r. checked (no_system r)) e
check_answer (Err (why.CertUnread reading.ReadFault)) = Some cert_unread
check_answer (Err (why.CertUnread (reading.TooLong n))) = Some (checked (no_certificate long_certificate))
check_answer (Err (why.CertUnread reading.NoMemory)) = None
check_answer (Err (why.CertRefused e)) = option_map (λ r. checked (no_certificate r)) (cert_refusal_of e)
check_answer (Err (why.Rejected names reason)) = Some (checked (rejected names (rejected_view reason)))
check_answer (Err why.NoMemory) = None

abbrev pub rejected_said : Option NameTable → Rejection → Said
rejected_said names reason = record { status = status.Rejected; out = rejected_line names reason; err = [] }
