use Rattle.std.proofs.Common.{◌≡◌, ◌≤◌, length}
use Rattle.query_search.proofs.Turning.{IsTurned}
use Rattle.query_search.proofs.choices.Turns.turn.Given as goal

abbrev pub invariant-places : goal.invariant-places
invariant-places l = record {
  within : l.place ≤ length l.fn.self.numbers.items;
  last : l.self.last ≡ l.fn.self.last;
  turned : IsTurned l.fn.self.last l.fn.self.numbers.items l.self.numbers.items l.place;
}

abbrev pub decreases-places : goal.decreases-places
decreases-places l = l.place
