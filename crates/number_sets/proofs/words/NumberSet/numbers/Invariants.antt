use Rattle.std.proofs.Common.{◌≡◌, ◌*◌}
use Rattle.number_sets.specs.Sets.{members_below}
use Rattle.number_sets.proofs.words.NumberSet.numbers.Given as goal

abbrev pub invariant-loop-place : goal.invariant-loop-place
invariant-loop-place l = l.numbers.items ≡ members_below l.self.words.items (64 * l.place)
