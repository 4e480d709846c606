use Rattle.std.proofs.Common.{◌≡◌, drop}
use Rattle.automaton_runs.specs.Counting.{are_below}
use Rattle.automaton_runs.proofs.index.are_states.Given as goal

abbrev pub invariant-loop-q : goal.invariant-loop-q
invariant-loop-q l = are_below l.count (drop l.q-index l.numbers) ≡ are_below l.count l.numbers
