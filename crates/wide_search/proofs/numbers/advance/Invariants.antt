use Rattle.std.proofs.Common.{◌≡◌, ◌≤◌, length}
use Rattle.term_core.specs.HeadView.{head_view}
use Rattle.wide_search.specs.Tried.{AreTried, AreTriedOf}
use Rattle.wide_search.proofs.numbers.advance.Given as goal

abbrev pub invariant-places : goal.invariant-places
invariant-places l = record {
  within : l.place ≤ l.count;
  counted : length l.entry.coeffs.items ≡ l.count;
  old : length l.fn.entry.coeffs.items ≡ l.count;
  head : l.entry.head ≡ l.fn.entry.head;
  tried : AreTried (head_view l.fn.entry.head) l.fn.entry.coeffs.items → AreTriedOf (head_view l.fn.entry.head) l.count l.entry.coeffs.items;
}

abbrev pub decreases-places : goal.decreases-places
decreases-places l = l.place
