-- What is said of a text that is read up to its entries.
use Rattle.std.specs.Prelude.{◌≡◌, ◌≤◌, ◌<◌, ℕ, suc, List, [], Option, None, Some, Result, Ok, Err, Vec, map}
use Rattle.std.specs.Global.{Global}
use Rattle.certificates.specs.Certificates.{PairEntry, Simplification, Certificate, peak_certificate, simplified_certificate}
use Rattle.cops_names.specs.NameTable.{NameTable}
use Rattle.cert_model.specs.CertificateView.{measure_view, peak_view, simp_view}
use Rattle.cert_model.specs.declared.model.MeasureCert.{MeasureCert}
use Rattle.cert_model.specs.declared.model.Simp.{Simp}
use Rattle.cert_grammar.specs.Prelude.{IsCertificateText, IsCertificateRefused, CertificateCause}
use Rattle.cert_openings.specs.Openings.{Opening, ortho_opening, quasi_opening, simplified_opening, certificate_for, IsOpeningEnd, IsOpened}
use Rattle.cert_words.specs.CertRefusals.{IsRefusedAs}
use Rattle.cert_words.specs.declared.error.CertError.{CertError}
use Rattle.cert_words.specs.Words.{told}
use Rattle.cert_text.specs.Reading.{Reading, HasRead, IsAll}
use Rattle.cert_text.specs.declared.opening.Opened.{Opened, Opened-F, fold-Opened}
use Rattle.cert_text.specs.declared.opening.Opened.TheOpen as opens

-- a text that is read up to its entries behind this opening, or a certificate without entries
pub data OpenedText : Type 0 where
  at_entries : Opening → Reading → OpenedText
  whole : Certificate → OpenedText

-- the same behind steps
abbrev pub behind_steps : List Simplification → OpenedText → OpenedText
behind_steps steps (at_entries o r) = at_entries (simplified_opening steps o) r
behind_steps steps (whole c) = whole (simplified_certificate steps c)

abbrev pub opened_case : Opened-F OpenedText → OpenedText
opened_case (opens.Ortho pairs) = at_entries ortho_opening pairs
opened_case (opens.Quasi measure pairs) = at_entries (quasi_opening (measure_view measure)) pairs
opened_case (opens.Peak peak) = whole (peak_certificate (peak_view peak))
opened_case (opens.Simplified steps body) = behind_steps (map simp_view steps.items) body.value

abbrev pub opened_view : Opened → OpenedText
opened_view = fold-Opened OpenedText opened_case

-- the opening is that of the text, or the text is that of the certificate
abbrev pub IsOpenedAs : NameTable → List ℕ → OpenedText → Type 0
IsOpenedAs names bytes (at_entries o r) = (r.names ≡ names) × (r.bytes ≡ bytes) × IsOpened names bytes o r.place
IsOpenedAs names bytes (whole c) = IsCertificateText names bytes c

-- each refusal of the text stands behind its opening; a whole certificate has none
abbrev pub IsRefusedBehind : NameTable → List ℕ → OpenedText → Type 0
IsRefusedBehind names bytes (at_entries o r) = (e : CertificateCause) (at : ℕ) → IsCertificateRefused names bytes e at → r.place ≤ at
IsRefusedBehind names bytes (whole c) = (e : CertificateCause) (at : ℕ) → IsCertificateRefused names bytes e at → ⊥

-- what is told stands before the opening's end, if there is one
abbrev pub IsToldBefore : List ℕ → CertError → Type 0
IsToldBefore bytes e = (f : CertificateCause) (at : ℕ) → told e ≡ Some (f, at) → (end : ℕ) → IsOpeningEnd bytes end → at < end

-- the text of a certificate without entries has no end of an opening
abbrev pub HasNoEndAtWhole : List ℕ → OpenedText → Type 0
HasNoEndAtWhole bytes (at_entries o r) = Unit {0}
HasNoEndAtWhole bytes (whole c) = (end : ℕ) → IsOpeningEnd bytes end → ⊥

-- steps that are read, and the opening with a measure that is read, or without one
abbrev pub steps_view : Option (Vec Simp Global) → Option (List Simplification)
steps_view None = None
steps_view (Some steps) = Some (map simp_view steps.items)

abbrev pub opening_view : Option MeasureCert → Opening
opening_view None = ortho_opening
opening_view (Some measure) = quasi_opening (measure_view measure)

-- what is said of a text that is opened, and of one that is refused
abbrev pub IsGood : NameTable → List ℕ → OpenedText → Type 0
IsGood names bytes t = IsOpenedAs names bytes t × HasNoEndAtWhole bytes t

abbrev pub IsBad : NameTable → List ℕ → CertError → Type 0
IsBad names bytes e = IsRefusedAs names bytes e × IsToldBefore bytes e

abbrev pub IsAnswer : NameTable → List ℕ → Result Opened CertError → Type 0
IsAnswer names bytes (Ok o) = IsGood names bytes (opened_view o)
IsAnswer names bytes (Err e) = IsBad names bytes e

-- ---- what is read behind an opening, to the end

-- an opening is read, and no entry
abbrev pub IsAtFirst : OpenedText → Type 0
IsAtFirst (at_entries o r) = (p : Opening) × HasRead r p []
IsAtFirst (whole c) = Unit {0}

-- the certificate with all entries that stand behind the opening
abbrev pub IsReadWhole : OpenedText → Certificate → Type 0
IsReadWhole (at_entries o r) c = (es : List PairEntry) × (c ≡ certificate_for o es) × ((p : Opening) → HasRead r p [] → IsAll r p es)
IsReadWhole (whole d) c = c ≡ d

-- a refusal of the text; behind a whole certificate memory alone is refused
abbrev pub IsToldOf : OpenedText → CertError → Type 0
IsToldOf (at_entries o r) e = IsRefusedAs r.names r.bytes e
IsToldOf (whole c) e = told e ≡ None

-- how deep an opened text is nested
abbrev depth_case : Opened-F ℕ → ℕ
depth_case (opens.Simplified steps body) = suc body.value
depth_case _ = 0

abbrev pub depth : Opened → ℕ
depth = fold-Opened ℕ depth_case
