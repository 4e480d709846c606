-- The choices that a `Batch` stands for.
use Rattle.std.specs.Prelude.{ℕ, ◌≡◌, ◌≢◌, ◌↔◌, ◌<◌, List, length, Option, None, Some, slice_get, slice_index}
use Rattle.number_sets.specs.Relation.{Relates}
use Rattle.number_sets.specs.declared.rows.NumberRelation.{NumberRelation}
use Rattle.automaton_runs.specs.Choices as choices
use Rattle.automaton_runs.specs.Choices.{Holds, choice_of}
use Rattle.automaton_runs.specs.declared.batch.Batch.TheInside.{Inside}

abbrev pub batch_view : Inside → choices.Batch
batch_view i = record { front = i.front.now; width = i.tails.now.width; tails = i.tails.now.lists }

-- the relation has the states that the choices have at a place
abbrev pub AreStatesAt : choices.Batch → ℕ → NumberRelation → Type 0
AreStatesAt b place r = (q k : ℕ) → Relates r q k ↔ (Holds b k × (slice_get (choice_of b k) place ≡ Some q))

pub record IsBatch (i : Inside) : Type 0 where
  pub places : length i.leaves.items ≡ length i.front.now
  pub leaves : (place : ℕ) (r : NumberRelation) → slice_get i.leaves.items place ≡ Some r → AreStatesAt (batch_view i) place r

-- the first place of a name, if it has one
abbrev pub IsFirstPlace : List ℕ → ℕ → Option ℕ → Type 0
IsFirstPlace names x None = (k : ℕ) → k < length names → slice_index names k ≢ x
IsFirstPlace names x (Some i) = (i < length names) × (slice_index names i ≡ x) × ((k : ℕ) → k < i → slice_index names k ≢ x)
