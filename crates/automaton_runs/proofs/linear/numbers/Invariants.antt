use Rattle.std.proofs.Common.{◌≡◌}
use Rattle.number_sets.specs.Sets.{below}
use Rattle.automaton_runs.proofs.linear.numbers.Given as goal

abbrev pub invariant-loop-number : goal.invariant-loop-number
invariant-loop-number l = l.numbers.items ≡ below l.number
