use Rattle.std.proofs.Common.{◌≡◌, ◌≤◌, length}
use Rattle.term_core.specs.HeadView.{head_view}
use Rattle.wide_search.specs.Tried.{AreTriedOf}
use Rattle.wide_search.proofs.numbers.first_entry.Given as goal

abbrev pub invariant-places : goal.invariant-places
invariant-places l = record {
  within : l.place ≤ l.count;
  counted : length l.coeffs.items ≡ l.place;
  tried : AreTriedOf (head_view l.head) l.count l.coeffs.items;
}
