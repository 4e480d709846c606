-- Why a text is that of no certificate, and the text that says so.
use Rattle.std.specs.Prelude.{◌≤◌, ◌<◌, ℕ, List, length, Option, option_map, codes}
use Rattle.cops_names.specs.NameTable.{NameTable}
use Rattle.cert_grammar.specs.Marks as marks
use Rattle.cert_grammar.specs.Refusals.{IsCertificateRefused}
use Rattle.cert_words.specs.declared.error.CertError.{CertError}
use Rattle.run_parts.specs.Bytes.{most_cert_bytes}
use Rattle.refusal_texts.specs.Certificates.{cert_cause_words, cert_error_cause}
use Rattle.concon_run.specs.FileRefusals.{refused_line}

-- it is too long, or refused for a cause at a place
pub data CertRefusal : Type 0 where
  long_certificate : CertRefusal
  no_certificate_text : marks.CertificateCause → ℕ → CertRefusal

abbrev pub IsCertRefused : NameTable → List ℕ → CertRefusal → Type 0
IsCertRefused names bytes long_certificate = most_cert_bytes < length bytes
IsCertRefused names bytes (no_certificate_text cause at) = (length bytes ≤ most_cert_bytes) × IsCertificateRefused names bytes cause at

abbrev pub cert_refused_line : List ℕ → CertRefusal → List ℕ
cert_refused_line name long_certificate = refused_line name most_cert_bytes (codes "too long")
cert_refused_line name (no_certificate_text cause at) = refused_line name at (cert_cause_words cause)

abbrev pub cert_refusal_of : CertError → Option CertRefusal
cert_refusal_of e = option_map (λ r. no_certificate_text r.0 r.1) (cert_error_cause e)
