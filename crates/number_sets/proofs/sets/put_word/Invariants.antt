use Rattle.std.proofs.Common.{◌≡◌}
use Rattle.number_sets.specs.Sets.{members_below}
use Rattle.number_sets.proofs.sets.put_word.Given as goal

abbrev pub invariant-loop-number : goal.invariant-loop-number
invariant-loop-number l = l.numbers.items ≡ members_below l.words l.number
