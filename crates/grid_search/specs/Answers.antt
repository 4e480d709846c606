-- What the search of the grid answers.
use Rattle.std.specs.Prelude.{ℕ, ◌≡◌, ◌⊎◌, map, Result}
use Rattle.rewriting.specs.Rules.{System}
use Rattle.certificates.specs.Certificates.{linear_measure}
use Rattle.interpretations.specs.Size.{DoesUnravelingFit}
use Rattle.term_core.specs.declared.terms.NoMemory.{NoMemory}
use Rattle.cert_model.specs.CertificateView.{linear_entry_view}
use Rattle.cert_model.specs.declared.model.Linear.{Linear}
use Rattle.cc_count.specs.Counts.{Counts}
use Rattle.cc_count.specs.Sought.{Seeks}
use Rattle.cc_count.specs.declared.Sought.{Sought}
use Rattle.measure_grid.specs.Pruned.{IsPrunedFirst, IsPrunedBarren, PrunedStops}

-- n units show that no interpretation is good; where a side of the unraveled system does not fit, none has to be tried
abbrev pub IsNoneGood : System → ℕ → Type 0
IsNoneGood sys n = IsPrunedBarren sys n ⊎ ((n ≡ 0) × (DoesUnravelingFit sys → ⊥))

abbrev pub GridAnswers : System → Counts → Counts → Result (Sought Linear) NoMemory → Type 0
GridAnswers sys = Seeks (λ (l : Linear) n. IsPrunedFirst sys (linear_measure (map linear_entry_view l.entries.items)) n) (IsNoneGood sys) (PrunedStops sys)
