use Rattle.std.proofs.Common.{◌≡◌, ℕ, ◌-◌, ◌≤◌, Some, map, length, slice_get}
use Rattle.term_core.specs.HeadView.{head_view}
use Rattle.lpo.proofs.symbols.place_of.Given as goal

abbrev pub invariant-halves : goal.invariant-halves
invariant-halves l = record {
  within : l.high ≤ length l.heads;
  between : (f : ℕ) → slice_get (map head_view l.heads) f ≡ Some (head_view l.head) → (l.low ≤ f) × (f ≤ l.high);
}

abbrev pub decreases-halves : goal.decreases-halves
decreases-halves l = l.high - l.low
