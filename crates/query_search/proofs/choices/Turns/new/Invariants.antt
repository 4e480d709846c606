use Rattle.std.proofs.Common.{◌≡◌, length}
use Rattle.query_search.specs.Choices.{AreZeros}
use Rattle.query_search.proofs.choices.Turns.new.Given as goal

abbrev pub invariant-numbers : goal.invariant-numbers
invariant-numbers l = record {
  zeros : AreZeros l.numbers.items;
  count : length l.numbers.items ≡ l.counter;
}
