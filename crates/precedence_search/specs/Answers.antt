-- What the search through precedences answers.
use Rattle.std.specs.Prelude.{ℕ, ◌≡◌, ◌⊎◌, map, Result, Vec}
use Rattle.std.specs.Global.{Global}
use Rattle.rewriting.specs.Rules.{System}
use Rattle.certificates.specs.Certificates.{precedence_measure}
use Rattle.interpretations.specs.Size.{DoesUnravelingFit}
use Rattle.term_core.specs.HeadView.{head_view}
use Rattle.term_core.specs.declared.systems.Head.{Head}
use Rattle.term_core.specs.declared.terms.NoMemory.{NoMemory}
use Rattle.cc_count.specs.Counts.{Counts}
use Rattle.cc_count.specs.Sought.{Seeks}
use Rattle.cc_count.specs.declared.Sought.{Sought}
use Rattle.precedence_walks.specs.Pruned.{IsPrunedFirst, IsPrunedBarren, PrunedStops}

-- n units show that no precedence is good; where a side of the unraveled system does not fit, none has to be tried
abbrev pub IsNoneGood : System → ℕ → Type 0
IsNoneGood sys n = IsPrunedBarren sys n ⊎ ((n ≡ 0) × (DoesUnravelingFit sys → ⊥))

abbrev pub SearchAnswers : System → Counts → Counts → Result (Sought (Vec Head Global)) NoMemory → Type 0
SearchAnswers sys = Seeks (λ (order : Vec Head Global) n. IsPrunedFirst sys (precedence_measure (map head_view order.items)) n) (IsNoneGood sys) (PrunedStops sys)
