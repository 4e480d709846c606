use Rattle.std.proofs.Common.{ℕ, ◌≡◌, ◌≤◌, length}
use Rattle.term_core.specs.HeadView.{head_view}
use Rattle.measure_grid.specs.Grid.{ranges}
use Rattle.measure_grid.proofs.Choices.{AreFrom}
use Rattle.grid_search.proofs.Odometer.{IsReset}
use Rattle.grid_search.proofs.entries.advance.Given as goal

abbrev pub invariant-places : goal.invariant-places
invariant-places l = record {
  within : l.place ≤ l.count;
  counted : length l.entry.coeffs.items ≡ l.count;
  old : length l.fn.entry.coeffs.items ≡ l.count;
  head : l.entry.head ≡ l.fn.entry.head;
  reset : (arity : ℕ) → AreFrom l.fn.entry.coeffs.items (ranges (head_view l.fn.entry.head) arity)
      → IsReset (ranges (head_view l.fn.entry.head) arity) l.fn.entry.coeffs.items l.entry.coeffs.items l.place;
}

abbrev pub decreases-places : goal.decreases-places
decreases-places l = l.place
