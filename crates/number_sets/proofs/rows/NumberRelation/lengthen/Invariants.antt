use Rattle.std.proofs.Common.{◌≡◌, ℕ, length}
use Rattle.number_sets.specs.Relation.{row_of}
use Rattle.number_sets.proofs.rows.NumberRelation.lengthen.Given as goal

abbrev pub invariant-rows : goal.invariant-rows
invariant-rows l = record {
  long : length l.self.rows.items ≡ l.counter;
  same : (p : ℕ) → row_of l.self p ≡ row_of l.fn.self p;
}
