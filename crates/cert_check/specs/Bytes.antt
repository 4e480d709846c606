-- What the check of a certificate's text answers.
use Rattle.std.specs.Prelude.{◌≡◌, ◌≢◌, ◌⊎◌, List, ℕ, Option, None, Some, Result, Ok, Err, map}
use Rattle.rewriting.specs.Rules.{System}
use Rattle.certificates.specs.Prelude.{PairEntry, Simplification, Peak, Certificate, simplified_certificate, Rejection}
use Rattle.simplifications.specs.Simplifying.{AllSimplify}
use Rattle.valid_certificates.specs.Certificates.{IsValid, IsRejected}
use Rattle.valid_certificates.specs.Peaks.{IsValidPeak, IsPeakRejected}
use Rattle.cops_names.specs.NameTable.{NameTable}
use Rattle.cert_model.specs.ReasonView.{rejected_view}
use Rattle.cert_grammar.specs.Prelude.{IsCertificateText, IsUnsimplified}
use Rattle.cert_openings.specs.Openings.{Opening, certificate_for}
use Rattle.cert_words.specs.CertRefusals.{IsRefusedAs}
use Rattle.cert_words.specs.declared.error.CertError.{CertError}
use Rattle.cert_words.specs.declared.error.CertError.TheVariants as refused
use Rattle.cert_text.specs.Front.{opened_behind}
use Rattle.cert_text.specs.OpenedText.{OpenedText, at_entries, whole, IsOpenedAs}
use Rattle.cert_check.specs.Kinds.{verdict_of, IsOfStep}
use Rattle.cert_check.specs.declared.Verdict.{Verdict}
use Rattle.cert_check.specs.declared.Verdict.TheVariants.{No}
use Rattle.cert_check.specs.declared.bytes.BytesError.{BytesError}
use Rattle.cert_check.specs.declared.bytes.BytesError.TheVariants.{Cert, Rejected, RejectedBehindSteps, NoMemory}

-- the refusal of the bytes, which is not want of memory
abbrev pub IsTold : NameTable → List ℕ → CertError → Type 0
IsTold names bytes e = (e ≢ refused.NoMemory) × IsRefusedAs names bytes e

-- the reason speaks of the rules of the system itself: no steps stand before the body, or one of them fails
abbrev pub IsOfOwnRules : Certificate → Rejection → Type 0
IsOfOwnRules c reason = IsUnsimplified c ⊎ IsOfStep reason

-- the bytes are the text of a certificate that is valid, and what it shows; or they are refused; or they are the text of one that is
-- rejected, for a reason of the system itself, or for one of the body, for the system that its good steps leave; for want of memory nothing is known
abbrev pub BytesAnswers : System → NameTable → List ℕ → Result Verdict BytesError → Type 0
BytesAnswers sys names bytes (Ok v) = (c : Certificate) × IsCertificateText names bytes c × IsValid sys c × (v ≡ verdict_of c)
BytesAnswers sys names bytes (Err (Cert e)) = IsTold names bytes e
BytesAnswers sys names bytes (Err (Rejected reason)) =
    (c : Certificate) × IsCertificateText names bytes c × IsRejected sys c (rejected_view reason) × IsOfOwnRules c (rejected_view reason)
BytesAnswers sys names bytes (Err (RejectedBehindSteps reason)) =
    (steps : List Simplification) × (body : Certificate) × (last : System) × IsCertificateText names bytes (simplified_certificate steps body) × AllSimplify sys steps last
    × IsRejected last body (rejected_view reason)
BytesAnswers sys names bytes (Err NoMemory) = Unit {0}

-- a certificate as it is, or as the body behind steps
abbrev pub behind : Option (List Simplification) → Certificate → Certificate
behind None c = c
behind (Some steps) c = simplified_certificate steps c

-- no steps stand before it
abbrev pub IsBare : OpenedText → Type 0
IsBare (at_entries o r) = (es : List PairEntry) → IsUnsimplified (certificate_for o es)
IsBare (whole c) = IsUnsimplified c

-- the bytes are opened as this text behind steps or none, and the symbols of the system are those of the names
pub record IsOpenedFor (sys : System) (names : NameTable) (bytes : List ℕ) (before : Option (List Simplification)) (t : OpenedText) : Type 0 where
  pub named : sys.arities ≡ map (λ s. s.1) names.symbols
  pub opened : IsOpenedAs names bytes (opened_behind before t)

-- what is judged of the body of a certificate of which they are the text
abbrev pub BodyAnswers : System → NameTable → List ℕ → Option (List Simplification) → Result Verdict BytesError → Type 0
BodyAnswers sys names bytes before (Ok v) = (c : Certificate) × IsCertificateText names bytes (behind before c) × IsValid sys c × (v ≡ verdict_of c)
BodyAnswers sys names bytes before (Err (Cert e)) = IsTold names bytes e
BodyAnswers sys names bytes before (Err (Rejected reason)) =
    (c : Certificate) × IsCertificateText names bytes (behind before c) × IsRejected sys c (rejected_view reason) × IsUnsimplified c
BodyAnswers sys names bytes before (Err (RejectedBehindSteps reason)) = ⊥
BodyAnswers sys names bytes before (Err NoMemory) = Unit {0}

-- the same of a text with an opening, of which the body's own opening is the second
abbrev pub EntriesAnswer : System → NameTable → List ℕ → Opening → Opening → Result Verdict BytesError → Type 0
EntriesAnswer sys names bytes o own (Ok v) =
    (es : List PairEntry) × IsCertificateText names bytes (certificate_for o es) × IsValid sys (certificate_for own es) × (v ≡ verdict_of (certificate_for own es))
EntriesAnswer sys names bytes o own (Err (Cert e)) = IsTold names bytes e
EntriesAnswer sys names bytes o own (Err (Rejected reason)) =
    (es : List PairEntry) × IsCertificateText names bytes (certificate_for o es) × IsRejected sys (certificate_for own es) (rejected_view reason)
EntriesAnswer sys names bytes o own (Err (RejectedBehindSteps reason)) = ⊥
EntriesAnswer sys names bytes o own (Err NoMemory) = Unit {0}

-- the peak is valid, or the first reason why it is not
abbrev pub PeakAnswers : System → Peak → Result Verdict BytesError → Type 0
PeakAnswers sys peak (Ok v) = (v ≡ No) × IsValidPeak sys peak
PeakAnswers sys peak (Err (Cert e)) = ⊥
PeakAnswers sys peak (Err (Rejected reason)) = IsPeakRejected sys peak (rejected_view reason)
PeakAnswers sys peak (Err (RejectedBehindSteps reason)) = ⊥
PeakAnswers sys peak (Err NoMemory) = Unit {0}

-- a reason for the body of a certificate with steps is told as one
abbrev pub of_body : Result Verdict BytesError → Result Verdict BytesError
of_body (Ok v) = Ok v
of_body (Err (Cert e)) = Err (Cert e)
of_body (Err (Rejected reason)) = Err (RejectedBehindSteps reason)
of_body (Err (RejectedBehindSteps reason)) = Err (RejectedBehindSteps reason)
of_body (Err NoMemory) = Err NoMemory

-- the rest of a text with an opening is read, to its end or to its refusal
abbrev pub RestAnswers : NameTable → List ℕ → Opening → Result (Unit {0}) CertError → Type 0
RestAnswers names bytes o (Ok _) = (es : List PairEntry) × IsCertificateText names bytes (certificate_for o es)
RestAnswers names bytes o (Err e) = IsRefusedAs names bytes e

-- the same of any text
abbrev pub WholeAnswers : NameTable → List ℕ → Option (List Simplification) → Result (Unit {0}) CertError → Type 0
WholeAnswers names bytes before (Ok _) = (c : Certificate) × IsCertificateText names bytes (behind before c)
WholeAnswers names bytes before (Err e) = IsRefusedAs names bytes e

-- the bytes are not refused
abbrev pub IsNoRefusal : Result Verdict BytesError → Type 0
IsNoRefusal (Ok v) = Unit {0}
IsNoRefusal (Err (Cert e)) = ⊥
IsNoRefusal (Err (Rejected reason)) = Unit {0}
IsNoRefusal (Err (RejectedBehindSteps reason)) = Unit {0}
IsNoRefusal (Err NoMemory) = Unit {0}
