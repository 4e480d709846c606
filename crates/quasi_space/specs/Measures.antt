-- The measures that are tried, in order: a grid of linear interpretations, then the precedences, whole or without what stands
-- behind dead prefixes.
use Rattle.std.specs.Prelude.{ℕ, ◌≡◌, length}
use Rattle.rewriting.specs.Rules.{System}
use Rattle.certificates.specs.Certificates.{MeasureCertificate}
use Rattle.first_found.specs.Items.{IsFirst, one}
use Rattle.quasi_space.specs.MeasureLists.{trials, GivesMeasure}
use Rattle.quasi_space.specs.PrunedMeasures.{IsPrunedFirst, IsPrunedWhole}

-- how measures are tried: the first good one, with the units up to and with it; and the units of the whole
pub record MeasureTrials : Type 1 where
  pub First : MeasureCertificate → ℕ → Type 0
  pub All : ℕ → Type 0

-- a unit for each, up to the first that is good
abbrev pub each_measure : System → MeasureTrials
each_measure sys = record { First = IsFirst one (GivesMeasure sys) (trials sys); All = λ n. n ≡ length (trials sys) }

-- a unit for each that is judged, and for each shorter prefix that is dead; the whole ends at the first good one, too
abbrev pub pruned_measures : System → MeasureTrials
pruned_measures sys = record { First = IsPrunedFirst sys; All = IsPrunedWhole sys }
