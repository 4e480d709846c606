-- All precedences of the symbols of an unraveled system.
use Rattle.std.specs.Prelude.{ℕ, ◌≡◌, ◌<◌, List, Some, slice_get, length}
use Rattle.rewriting.specs.Prelude.{System, Head, heads}
use Rattle.certificates.specs.Certificates.{MeasureCertificate, precedence_measure}
use Rattle.interpretations.specs.Judgement.{good}
use Rattle.path_orders.specs.Precedences.{Precedence}
use Rattle.path_orders.specs.Judged.{IsPrecedenceJudged}
use Rattle.precedence_walks.specs.Arrangements.{arrangements, ComesBefore}

-- all precedences, in lexicographic order of the symbols' numbers
abbrev pub precedences : System → List Precedence
precedences sys = arrangements (length (heads sys)) (heads sys)

-- the number of the one symbol is less than that of the other
pub record HasLessNumber (sys : System) (h k : Head) : Type 0 where
  pub number : ℕ
  pub number_behind : ℕ
  pub first : slice_get (heads sys) number ≡ Some h
  pub second : slice_get (heads sys) number_behind ≡ Some k
  pub less : number < number_behind

abbrev pub IsBeforeByNumbers : System → Precedence → Precedence → Type 0
IsBeforeByNumbers sys = ComesBefore (HasLessNumber sys)

-- the precedence is judged good, and this is the measure
abbrev pub GivesMeasure : System → Precedence → MeasureCertificate → Type 0
GivesMeasure sys order m = (m ≡ precedence_measure order) × IsPrecedenceJudged sys order good
