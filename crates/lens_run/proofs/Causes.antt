-- The errors of the readers tell the causes and places of refusals.
use Rattle.std.proofs.Common.{ℕ, List, Option, None, Some, inl, inr}
use Rattle.std.specs.Prelude.{IfSome}
use Rattle.cops_names.specs.NameTable.{NameTable}
use Rattle.cops_read.specs.Answers.{IsRefusedFor}
use Rattle.cops_read.specs.File.{IsNoFile}
use Rattle.cops_read.specs.declared.errors.ReadError.{ReadError}
use Rattle.cops_read.specs.declared.errors.ReadError.TheVariants as reading
use Rattle.cert_grammar.specs.Refusals.{IsCertificateRefused}
use Rattle.cert_words.specs.CertRefusals.{IsRefusedAs}
use Rattle.cert_words.specs.declared.error.CertError.{CertError}
use Rattle.cert_words.specs.declared.error.CertError.TheVariants as certs
use Rattle.refusal_texts.specs.Files.{file_cause_words, file_error_cause, file_refusal_text}
use Rattle.refusal_texts.specs.Certificates.{cert_cause_words, cert_error_cause, cert_refusal_text}
use Rattle.run_parts.specs.Bytes.{told_or_any}
use Rattle.lens_run.specs.Runs.{IsSaidRefused, NoSystemSaid, NoCertSaid, IsAriSaid}
use Rattle.lens_run.specs.Said.{Said}
use Rattle.lens_run.specs.declared.status.Status.TheVariants as status
use Rattle.lens_run.proofs.Unread.{refused}

file_cause : (bytes : List ℕ) (e : ReadError) → IsRefusedFor bytes e → IfSome (file_error_cause e) (λ r. IsNoFile bytes r.0 r.1)
file_cause bytes (reading.TooMany what limit at) h = h.0
file_cause bytes _ h = h

cert_cause : (names : NameTable) (bytes : List ℕ) (e : CertError) → IsRefusedAs names bytes e → IfSome (cert_error_cause e) (λ r. IsCertificateRefused names bytes r.0 r.1)
cert_cause names bytes certs.NoMemory h = tt
cert_cause names bytes _ h = h

module _ (told : Option (List ℕ)) (failed : Type 0) (name bytes : List ℕ) (is : told_or_any told bytes) (said : Said) where
  pub file_refused : (e : ReadError) → IsRefusedFor bytes e → IsSaidRefused status.FileRefused name bytes (file_refusal_text e) said → NoSystemSaid (told_or_any told) failed name said
  file_refused e h says =
      elim (refused file_cause_words (IsNoFile bytes) failed status.FileRefused name bytes said (file_error_cause e) (file_cause bytes e h) says)
      [ inl placed ↦ inl (bytes, is, inr placed) | inr none ↦ inr none ]

  pub cert_refused : (names : NameTable) (e : CertError) → IsRefusedAs names bytes e → IsSaidRefused status.CertRefused name bytes (cert_refusal_text e) said
      → NoCertSaid (told_or_any told) names failed name said
  cert_refused names e h says =
      elim (refused cert_cause_words (IsCertificateRefused names bytes) failed status.CertRefused name bytes said (cert_error_cause e) (cert_cause names bytes e h) says)
      [ inl placed ↦ inl (bytes, is, inr placed) | inr none ↦ inr none ]

  pub ari_refused : (o : Option (ℕ × List ℕ)) → IsSaidRefused status.FileRefused name bytes o said → IsAriSaid (told_or_any told) failed name said
  ari_refused (Some r) (inl placed) = inr (inl (bytes, is, inr (r.0, r.1, placed)))
  ari_refused (Some r) (inr e) = inr (inr (inr e))
  ari_refused None e = inr (inr (inr e))
