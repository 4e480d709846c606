-- What steps that simplify a system carry back to it.
use Rattle.std.specs.Prelude.{◌≡◌, List}
use Rattle.rewriting.specs.Prelude.{Term, System, IsWellFormed}
use Rattle.certificates.specs.Certificates.{Peak, Simplification, Certificate, ortho_certificate, quasi_certificate, peak_certificate, simplified_certificate}
use Rattle.simplifications.specs.Simplifying.{AllSimplify}
use Rattle.valid_certificates.specs.Peaks.{LeadsTo}
use Rattle.valid_certificates.specs.Laws.{IsUnjoinable}

-- a term that reaches two terms without a common reduct behind good steps does so before them, by the system and by the file's relation
abbrev pub PeaksAreCarriedBack : Type 0
PeaksAreCarriedBack =
    (sys last : System) (ss : List Simplification) (t u v : Term) → IsWellFormed sys → AllSimplify sys ss last → IsUnjoinable last t u v → IsUnjoinable sys t u v

-- the certificate is the peak behind good steps, or behind none, which leave the last system
abbrev pub EndsInPeak : System → Certificate → System → Peak → Type 0
EndsInPeak sys (ortho_certificate pairs) last peak = ⊥
EndsInPeak sys (quasi_certificate measure pairs) last peak = ⊥
EndsInPeak sys (peak_certificate p) last peak = (last ≡ sys) × (peak ≡ p)
EndsInPeak sys (simplified_certificate steps c) last peak = (next : System) × AllSimplify sys steps next × EndsInPeak next c last peak

-- in the last system the peak's derivations lead to two terms, and whichever they are, in the first one the start reaches both and they
-- have no common reduct
pub record ReachesApartBehind (sys last : System) (peak : Peak) : Type 0 where
  pub leads : (u : Term) × (v : Term) × LeadsTo last peak u v
  pub apart : (u v : Term) → LeadsTo last peak u v → IsUnjoinable sys peak.start u v

-- the certificate is such a peak
abbrev pub IsPeakApart : System → Certificate → Type 0
IsPeakApart sys c = (last : System) × (peak : Peak) × EndsInPeak sys c last peak × ReachesApartBehind sys last peak
