-- One visit after the other: what was paid, and where the walk ends.
use Rattle.std.proofs.Common.{ℕ, ◌≡◌, ◌+◌, List, Bool, Ok, map, subst}
use Rattle.rewriting.specs.Prelude.{System}
use Rattle.interpretations.specs.Linear.{Interpretation}
use Rattle.cert_model.specs.CertificateView.{linear_entry_view}
use Rattle.cert_model.specs.declared.model.LinearEntry.{LinearEntry}
use Rattle.cc_count.specs.Counts.{Counts}
use Rattle.cc_count.proofs.Paid.{HasPaid}
use Rattle.measure_grid.specs.Dead.{IsDead}
use Rattle.grid_search.specs.Walks.{HasComeTo, HasDoneWith, GoesOn, VisitAnswers}
use Rattle.grid_search.specs.declared.walk.Seen.{Seen}
use Rattle.grid_search.proofs.Walking.{done_with_dead}

-- what is seen of the entries that the walk holds
pub seen : (sys : System) (es held : List LinearEntry) (r s : Seen) → es ≡ held → r ≡ s → VisitAnswers sys (map linear_entry_view es) (Ok r) → VisitAnswers sys (map linear_entry_view held) (Ok s)
seen sys es held r s same is h =
    subst (λ (z : Seen). VisitAnswers sys (map linear_entry_view held) (Ok z)) is (subst (λ (z : List LinearEntry). VisitAnswers sys (map linear_entry_view z) (Ok r)) same h)

-- the walk came to these entries for what was paid
abbrev pub HasPaidTo : System → Counts → Counts → Interpretation → Type 0
HasPaidTo sys start here es = HasPaid (HasComeTo sys es) start here

-- where it goes on behind dead entries
pub goes : (sys : System) (es next : Interpretation) (b other : Bool) → b ≡ other → ((sys : System) (n : ℕ) → HasDoneWith sys es n → GoesOn sys next n b) → IsDead sys es
    → (n : ℕ) → HasComeTo sys es n → GoesOn sys next (n + 1) other
goes sys es next b other is h dead n here = subst (GoesOn sys next (n + 1)) is (h sys (n + 1) (done_with_dead sys es n here dead))
