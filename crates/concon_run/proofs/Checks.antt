-- A check: its words, that what was read and judged is what it answers, and what is said of that.
use Rattle.std.proofs.Common.{◌≡◌, ℕ, ◌≤◌, ◌<◌, List, length, Option, Some, None, Result, Ok, Err, inl, inr, refl, sym, ap, subst}
use Rattle.std.specs.Prelude.{IfSome, IsErrOf, option_map}
use Rattle.rewriting.specs.Prelude.{System, IsConfluent}
use Rattle.join_systems.specs.FileRelation.{IsFromFile, IsFileConfluent}
use Rattle.certificates.specs.Prelude.{Certificate, ortho_certificate, quasi_certificate, peak_certificate, simplified_certificate, Rejection, simplification_fails}
use Rattle.valid_certificates.specs.CarriedBack.{IsPeakApart}
use Rattle.cops_names.specs.NameTable.{NameTable}
use Rattle.cc_io.specs.Errors.{IsTooLong}
use Rattle.cc_io.specs.declared.shelf.ReadAllError.{ReadAllError}
use Rattle.cc_io.specs.declared.shelf.ReadAllError.TheVariants as reading
use Rattle.cert_model.specs.ReasonView.{rejected_view}
use Rattle.cert_model.specs.declared.reasons.Rejected as reasons
use Rattle.cert_grammar.specs.CertificateText.{IsCertificateText}
use Rattle.cert_check.proofs.BodyReasons.{of_body, body_is_bare}
use Rattle.cert_check.specs.Kinds.{IsOfStep}
use Rattle.cert_check.specs.Answers.{OnYes, OnNo}
use Rattle.cert_check.specs.Bytes.{BytesAnswers, IsOfOwnRules}
use Rattle.cert_check.specs.declared.Verdict.{Verdict}
use Rattle.cert_check.specs.declared.Verdict.TheVariants.{Yes, No}
use Rattle.cert_check.specs.declared.bytes.BytesError.{BytesError}
use Rattle.cert_check.specs.declared.bytes.BytesError.TheVariants as bytes_error
use Rattle.cert_words.specs.declared.error.CertError.{CertError}
use Rattle.run_parts.specs.Bytes.{most_cert_bytes, Bytes, told_or_any, bytes_of, SpellsSystem}
use Rattle.refusal_texts.specs.Certificates.{cert_cause_words, cert_error_cause, cert_refusal_text}
use Rattle.run_parts.specs.Devices.{ShelfRun, HasFailed, BeginsAtMost}
use Rattle.run_parts.proofs.LongTexts.{long_text}
use Rattle.concon_run.specs.CertRefusals.{CertRefusal, long_certificate, no_certificate_text, cert_refusal_of}
use Rattle.concon_run.specs.Run.{Run}
use Rattle.concon_run.specs.Said.{Said, IsSaidIfMemory, Tells, TellsIfMemory}
use Rattle.concon_run.specs.Check.{IsCheck, names_behind, names_judged, IsRefusedCertificate, CheckOutcome, no_system, no_certificate, IsTrueOf, CheckAnswer, checked, file_unread}
use Rattle.concon_run.specs.Check.{cert_unread, said_of_check, said_of_outcome, IsCheckAnswer, CalmlyComesTo}
use Rattle.concon_run.specs.Checking.{CertificateAnswers, IsShownBy, check_answer}
use Rattle.concon_run.specs.Files.{SystemAnswers, no_system_said}
use Rattle.concon_run.specs.Refusals.{refused_said}
use Rattle.concon_run.specs.Replies.{said_if_any}
use Rattle.concon_run.specs.declared.files.NoSystem.{NoSystem}
use Rattle.concon_run.specs.declared.check.NoVerdict.{NoVerdict}
use Rattle.concon_run.specs.declared.check.NoVerdict.TheVariants as no_verdict
use Rattle.concon_run.specs.declared.status.Status.TheVariants as status
use Rattle.concon_run.proofs.Letters.{first_letter}
use Rattle.concon_run.proofs.OneSystem.{KnownSystems}
use Rattle.concon_run.proofs.OneOutcome.{KnownCertificates, one_outcome}
use Rattle.concon_run.proofs.Unread.{given_none, no_system_is_said, refusal_is_said}

pub letter_of_check : (words : List (List ℕ)) (file cert : List ℕ) → IsCheck words file cert → first_letter words ≡ 99
letter_of_check words file cert e = ap first_letter e

pub same_file : (words : List (List ℕ)) (file cert other others : List ℕ) → IsCheck words file cert → IsCheck words other others → other ≡ file
same_file words file cert other others e f = cc

pub same_cert : (words : List (List ℕ)) (file cert other others : List ℕ) → IsCheck words file cert → IsCheck words other others → others ≡ cert
same_cert words file cert other others e f = cc

no_certificate_beyond : (told : Option (List ℕ)) (names : NameTable) → IfSome told (λ bytes. most_cert_bytes < length bytes) → IsRefusedCertificate (told_or_any told) names long_certificate
no_certificate_beyond told names l = long_text told most_cert_bytes l

pub cert_not_read : {A : Type 0} (told : Option (List ℕ)) (failed : Type 0) (sys : System) (names : NameTable) (e : ReadAllError)
    → (IsErrOf {T = A} (Err e) reading.ReadFault → failed) → (IsTooLong e → IfSome told (λ bytes. most_cert_bytes < length bytes))
    → CertificateAnswers (told_or_any told) failed sys names (Err (no_verdict.CertUnread e))
cert_not_read told failed sys names reading.ReadFault fault long = fault refl
cert_not_read told failed sys names (reading.TooLong n) fault long = no_certificate_beyond told names (long tt)
cert_not_read told failed sys names reading.NoMemory fault long = tt

-- names tell the variables of the system's own rules
named : (names : NameTable) (c : Certificate) (reason : Rejection) → IsOfOwnRules c reason → Some names ≡ names_judged names c reason
named names (ortho_certificate pairs) reason h = refl
named names (quasi_certificate measure pairs) reason h = refl
named names (peak_certificate peak) reason h = refl
named names (simplified_certificate steps c) reason (inl h) = absurd h
named names (simplified_certificate steps c) reason (inr h) = of_step reason h
  where
    of_step : (r : Rejection) → IsOfStep r → Some names ≡ names_behind names r
    of_step (simplification_fails n why) h = refl
    of_step r h = absurd h

-- and none those of the rules that good steps leave
unnamed : (names : NameTable) (reason : Rejection) → (IsOfStep reason → ⊥) → ◌≡◌ {A = Option NameTable} None (names_behind names reason)
unnamed names (simplification_fails n why) h = absurd (h tt)
unnamed names reason h = refl

-- the answer to the bytes of a certificate is one to its file
module _ (cert : Bytes) (failed : Type 0) (sys : System) (names : NameTable) (bytes : List ℕ) (f : cert bytes) (short : length bytes ≤ most_cert_bytes) where
  pub cert_rejected : (reason : reasons.Rejected) → BytesAnswers sys names bytes (Err (bytes_error.Rejected reason))
      → CertificateAnswers cert failed sys names (Err (no_verdict.Rejected (Some names) reason))
  cert_rejected reason h = (h.0, (bytes, f, short, h.1), h.2, named names h.0 (rejected_view reason) h.3)

  pub body_rejected : (reason : reasons.Rejected) → BytesAnswers sys names bytes (Err (bytes_error.RejectedBehindSteps reason))
      → CertificateAnswers cert failed sys names (Err (no_verdict.Rejected None reason))
  body_rejected reason (steps, body, last, text, good, h) = (
    simplified_certificate steps body,
    (bytes, f, short, text),
    inr (last, good, h),
    unnamed names (rejected_view reason)
        (of_body last body (rejected_view reason) (body_is_bare text.0 body text.1.spelt.0) h),
  )

  module _ (from : IsFromFile sys) where
    shown_by : (v : Verdict) → OnYes {E = BytesError} (Ok v) (IsConfluent sys) → OnYes {E = BytesError} (Ok v) (IsFromFile sys → IsFileConfluent sys)
        → OnNo {E = BytesError} (Ok v) ((c : Certificate) × IsCertificateText names bytes c × IsPeakApart sys c) → IsShownBy cert sys names v
    shown_by Yes confluent file h = record { file = file from; system = confluent }
    shown_by No confluent file h = (h.0, (bytes, f, short, h.1), h.2)

    pub cert_judged : (v : Verdict) → BytesAnswers sys names bytes (Ok v) → OnYes {E = BytesError} (Ok v) (IsConfluent sys)
        → OnYes {E = BytesError} (Ok v) (IsFromFile sys → IsFileConfluent sys)
        → OnNo {E = BytesError} (Ok v) ((c : Certificate) × IsCertificateText names bytes c × IsPeakApart sys c)
        → CertificateAnswers cert failed sys names (Ok v)
    cert_judged v h confluent file apart = (h.0, (bytes, f, short, h.1), h.2, h.3, shown_by v confluent file apart)

module _ (shelf : ShelfRun) (file cert : List ℕ) where
  -- the file gives no system
  pub file_gives_none : (e : NoSystem) → SystemAnswers (bytes_of shelf file) (HasFailed shelf file) (Err e) → BeginsAtMost file shelf
      → IfSome (check_answer (Err (no_verdict.NoSystem e))) (IsCheckAnswer shelf file cert)
  file_gives_none e h only =
      given_none (IsCheckAnswer shelf file cert) shelf file file_unread (λ r. checked (no_system r)) (λ failed. record { cause = failed; right = tt; left = only })
      (λ r refused. record { cause = refused; right = tt; left = only }) e h

  module _ (sys : System) (names : NameTable) (f : SpellsSystem (bytes_of shelf file) sys names) where
    -- what a certificate shows of the system is true of the texts
    true_of : (v : Verdict) → IsShownBy (bytes_of shelf cert) sys names v → IsTrueOf (bytes_of shelf file) (bytes_of shelf cert) v
    true_of Yes h = (sys, names, f, h)
    true_of No h = (sys, names, h.0, f, h.1, h.2)

    refusal : (o : Option CertRefusal) → IfSome o (IsRefusedCertificate (bytes_of shelf cert) names) → IfSome (option_map (λ r. checked (no_certificate r)) o) (IsCheckAnswer shelf file cert)
    refusal (Some r) h = record { cause = (sys, names, f, h); right = tt; left = tt }
    refusal None h = tt

    -- the file gives a system, and this is the answer to the certificate
    pub certificate_answered : (failed : Type 0) → (failed → HasFailed shelf cert) → (r : Result Verdict NoVerdict) → CertificateAnswers (bytes_of shelf cert) failed sys names r
        → IfSome (check_answer r) (IsCheckAnswer shelf file cert)
    certificate_answered failed rose (Ok v) h = record { cause = (sys, names, h.0, f, h.1, h.2, h.3); right = true_of v h.4; left = tt }
    certificate_answered failed rose (Err (no_verdict.NoSystem e)) h = absurd h
    certificate_answered failed rose (Err (no_verdict.CertUnread reading.ReadFault)) h = record { cause = (rose h, (sys, names, f)); right = tt; left = tt }
    certificate_answered failed rose (Err (no_verdict.CertUnread (reading.TooLong n))) h = record { cause = (sys, names, f, h); right = tt; left = tt }
    certificate_answered failed rose (Err (no_verdict.CertUnread reading.NoMemory)) h = tt
    certificate_answered failed rose (Err (no_verdict.CertRefused e)) h = refusal (cert_refusal_of e) h
    certificate_answered failed rose (Err (no_verdict.Rejected judged reason)) h = record { cause = (sys, names, h.0, f, h.1, h.2, h.3); right = tt; left = tt }
    certificate_answered failed rose (Err no_verdict.NoMemory) h = tt

-- what is said is what the answer says
module _ (file cert : List ℕ) where
  abbrev Says : NoVerdict → Said → Type 0
  Says e said = IsSaidIfMemory (said_if_any (said_of_check file cert) (check_answer (Err e))) said

  pub no_system_says : (e : NoSystem) (said : Said) → IsSaidIfMemory (no_system_said file e) said → Says (no_verdict.NoSystem e) said
  no_system_says e said h = no_system_is_said (said_of_check file cert) file file_unread (λ r. checked (no_system r)) refl (λ r. refl) e said h

  pub refused_cert_says : (e : CertError) (text : Option (ℕ × List ℕ)) (said : Said) → text ≡ cert_refusal_text e → IsSaidIfMemory (refused_said status.CertRefused cert text) said
      → Says (no_verdict.CertRefused e) said
  refused_cert_says e text said same h =
      refusal_is_said (said_of_check file cert) no_certificate_text cert_cause_words (λ r. checked (no_certificate r)) status.CertRefused cert (λ cause at. refl) (cert_error_cause e) text said same h

-- where the texts can come to one thing alone and nothing fails, that is the answer
pub check_exactly : KnownSystems → KnownCertificates → (run : Run) (file cert : List ℕ) (outcome : CheckOutcome) → CalmlyComesTo run file cert outcome
    → (answer : CheckAnswer) → IsCheckAnswer run.shelf file cert answer → Tells run (said_of_check file cert answer) → TellsIfMemory run (said_of_outcome file cert outcome)
check_exactly systems k run file cert outcome calm (checked o) h told =
    inl (subst (λ p. Tells run (said_of_outcome file cert p)) (sym (one_outcome systems k (run.shelf.contents file) (run.shelf.contents cert) outcome o calm.1 h.cause)) told)
check_exactly systems k run file cert outcome calm file_unread h told = absurd (calm.2 h.cause)
check_exactly systems k run file cert outcome calm cert_unread h told = absurd (calm.3 h.cause.0)
