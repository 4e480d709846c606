-- The kinds of certificates: what they show, and which can be judged.
use Rattle.rewriting.specs.Prelude.{Fits, IsOver, System}
use Rattle.certificates.specs.Prelude.{Peak, Certificate, ortho_certificate, quasi_certificate, peak_certificate, simplified_certificate, Rejection, simplification_fails, IsShort}
use Rattle.simplifications.specs.Simplifying.{AllSimplify}
use Rattle.valid_certificates.specs.Entries.{ArePairsShort}
use Rattle.noncon_check.specs.Judges.{AreFew}
use Rattle.cert_check.specs.declared.Verdict.{Verdict}
use Rattle.cert_check.specs.declared.Verdict.TheVariants.{Yes, No}

-- a peak shows that the system is not confluent, the other kinds that it is; behind steps the same
abbrev pub verdict_of : Certificate → Verdict
verdict_of (ortho_certificate pairs) = Yes
verdict_of (quasi_certificate measure pairs) = Yes
verdict_of (peak_certificate peak) = No
verdict_of (simplified_certificate steps c) = verdict_of c

-- the peak's start fits and is over the symbols, its derivations are short, and its entries are few
pub record CanPeakBeJudged (sys : System) (peak : Peak) : Type 0 where
  pub fits : Fits peak.start
  pub over : IsOver sys.arities peak.start
  pub first_short : IsShort peak.first
  pub second_short : IsShort peak.second
  pub few : AreFew peak.apart

-- numbers of 32 bits tell the steps of derivations and the entries; of a body in the system that its steps leave
abbrev pub CanBeJudged : System → Certificate → Type 0
CanBeJudged sys (ortho_certificate pairs) = ArePairsShort pairs
CanBeJudged sys (quasi_certificate measure pairs) = ArePairsShort pairs
CanBeJudged sys (peak_certificate peak) = CanPeakBeJudged sys peak
CanBeJudged sys (simplified_certificate steps c) = (last : System) → AllSimplify sys steps last → CanBeJudged last c

-- a step before the body fails
abbrev pub IsOfStep : Rejection → Type 0
IsOfStep (simplification_fails n why) = Unit {0}
IsOfStep reason = ⊥
