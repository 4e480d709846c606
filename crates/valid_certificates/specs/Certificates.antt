-- Valid certificates of every kind, and the first reason why a certificate is rejected.
use Rattle.std.specs.Prelude.{◌≡◌, ◌⊎◌, ℕ, List}
use Rattle.rewriting.specs.Rules.{System}
use Rattle.interpretations.specs.Judgement.{Judgement}
use Rattle.interpretations.specs.Judged as linear
use Rattle.path_orders.specs.Judged as path
use Rattle.certificates.specs.Prelude.{Simplification, MeasureCertificate, linear_measure, precedence_measure, Certificate, ortho_certificate, quasi_certificate, peak_certificate}
use Rattle.certificates.specs.Prelude.{simplified_certificate, SimplificationReason, Rejection, simplification_fails}
use Rattle.simplifications.specs.Simplifying.{AllSimplify, FailsAt}
use Rattle.valid_certificates.specs.Confluence.{IsValidOrtho, IsOrthoRejected, IsValidQuasi, IsQuasiRejected}
use Rattle.valid_certificates.specs.Peaks.{IsValidPeak, IsPeakRejected}

-- what the measure of a certificate is judged to be
abbrev pub IsMeasureJudged : System → MeasureCertificate → Judgement → Type 0
IsMeasureJudged sys (linear_measure es) j = linear.IsInterpretationJudged sys es j
IsMeasureJudged sys (precedence_measure order) j = path.IsPrecedenceJudged sys order j

abbrev pub IsValid : System → Certificate → Type 0
IsValid sys (ortho_certificate es) = IsValidOrtho sys es
IsValid sys (quasi_certificate m es) = IsValidQuasi (IsMeasureJudged sys m) sys es
IsValid sys (peak_certificate p) = IsValidPeak sys p
IsValid sys (simplified_certificate steps c) = (last : System) × AllSimplify sys steps last × IsValid last c

-- a step before the body fails, which is judged first
abbrev pub IsStepRejected : System → List Simplification → Rejection → Type 0
IsStepRejected sys steps r = (n : ℕ) × (why : SimplificationReason) × FailsAt sys steps n why × (r ≡ simplification_fails n why)

abbrev pub IsRejected : System → Certificate → Rejection → Type 0
IsRejected sys (ortho_certificate es) r = IsOrthoRejected sys es r
IsRejected sys (quasi_certificate m es) r = IsQuasiRejected (IsMeasureJudged sys m) sys es r
IsRejected sys (peak_certificate p) r = IsPeakRejected sys p r
IsRejected sys (simplified_certificate steps c) r = IsStepRejected sys steps r ⊎ ((last : System) × AllSimplify sys steps last × IsRejected last c r)
