-- The entries that a search makes: for each overlap the first valid evidence among its items, each of which costs one.
use Rattle.std.specs.Prelude.{ℕ, ◌≡◌, List}
use Rattle.rewriting.specs.Rules.{System}
use Rattle.unifier_run.specs.Overlaps.{Overlap}
use Rattle.certificates.specs.Prelude.{PairEvidence, PairEntry}
use Rattle.valid_certificates.specs.Kinds.{Kind}
use Rattle.first_found.specs.Items.{IsFirst, IsStopped, cost_of, one}
use Rattle.search_spaces.specs.PairItems.{PairItem, GivesEvidence}

abbrev pub entry_for : Overlap → PairEvidence → PairEntry
entry_for o e = record { inner = o.inner; position = o.position; outer = o.outer; evidence = e }

-- the entry has the first valid evidence for the overlap, at this cost
abbrev pub IsFirstEntry : Kind → System → (Overlap → List PairItem) → Overlap → PairEntry → ℕ → Type 0
IsFirstEntry kind sys items o entry n = (e : PairEvidence) × IsFirst one (GivesEvidence kind sys o) (items o) e n × (entry ≡ entry_for o e)

-- what all items of an overlap cost
abbrev pub overlap_cost : (Overlap → List PairItem) → Overlap → ℕ
overlap_cost items o = cost_of one (items o)

-- a walk through the items of an overlap stopped
abbrev pub StopsAtOverlap : Kind → System → (Overlap → List PairItem) → Overlap → ℕ → Type 0
StopsAtOverlap kind sys items o n = IsStopped one (GivesEvidence kind sys o) (items o) n
