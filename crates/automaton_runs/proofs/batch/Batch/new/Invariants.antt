use Rattle.std.proofs.Common.{◌≡◌, ◌↔◌, ◌<◌, ℕ, length, Some, slice_get}
use Rattle.number_sets.specs.Relation.{Relates}
use Rattle.number_sets.specs.declared.rows.NumberRelation.{NumberRelation}
use Rattle.automaton_runs.proofs.batch.Batch.new.Given as goal

abbrev pub invariant-loop-state : goal.invariant-loop-state
invariant-loop-state l = record {
  long : length l.leaves.items ≡ l.state-index;
  each : (place : ℕ) (r : NumberRelation) → slice_get l.leaves.items place ≡ Some r
      → (state : ℕ) × (slice_get l.front place ≡ Some state) × ((q k : ℕ) → Relates r q k ↔ ((k < length l.tails.lists) × (q ≡ state)));
}
