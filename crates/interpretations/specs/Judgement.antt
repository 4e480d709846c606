-- What a measure is judged to be for a system.
use Rattle.std.specs.Prelude.{ℕ}
use Rattle.certificates.specs.Reasons.{MeasureReason}

-- good; not good, for the first reason; or not judged, since a side of the unraveled system that comes from this rule does not fit
pub data Judgement : Type 0 where
  good : Judgement
  not_good : MeasureReason → Judgement
  unraveling_large : ℕ → Judgement
