-- Relations between states and the numbers of lists that have them at a place.
use Rattle.std.specs.Prelude.{ℕ, ◌≡◌, ◌↔◌, List, Some, slice_get}
use Rattle.rewriting.specs.Lists.{IsAmong}
use Rattle.number_sets.specs.Relation.{Relates}
use Rattle.number_sets.specs.declared.rows.NumberRelation.{NumberRelation}

-- the relation has the states that the lists have at a place
abbrev pub AreStatesIn : List (List ℕ) → ℕ → NumberRelation → Type 0
AreStatesIn lists place r = (q k : ℕ) → Relates r q k ↔ ((list : List ℕ) × (slice_get lists k ≡ Some list) × (slice_get list place ≡ Some q))

-- each relation has those at its place
abbrev pub AreAllStatesIn : List (List ℕ) → List NumberRelation → Type 0
AreAllStatesIn lists rs = (place : ℕ) (r : NumberRelation) → slice_get rs place ≡ Some r → AreStatesIn lists place r

abbrev pub AreZeros : List ℕ → Type 0
AreZeros list = (q : ℕ) → IsAmong q list → q ≡ 0
