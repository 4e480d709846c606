use Rattle.std.proofs.Common.{◌≡◌, ℕ, [], length}
use Rattle.unravel.specs.Listed.{listed}
use Rattle.unravel.proofs.listed.empty_lists.Given as goal

abbrev pub invariant-lists : goal.invariant-lists
invariant-lists l = record {
  empty : (k : ℕ) → listed l.lists.items k ≡ [];
  count : length l.lists.items ≡ l.counter;
}
