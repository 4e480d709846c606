use Rattle.std.proofs.Common.{◌≡◌, ℕ, [], length}
use Rattle.rule_index.specs.Index.{listed}
use Rattle.rule_index.proofs.Buckets.{lists}
use Rattle.rule_index.proofs.empty_buckets.Given as goal

abbrev pub invariant-loop : goal.invariant-loop
invariant-loop l = record {
  empty : (f : ℕ) → listed (lists l.buckets.items) f ≡ [];
  count : length l.buckets.items ≡ l.counter;
}
