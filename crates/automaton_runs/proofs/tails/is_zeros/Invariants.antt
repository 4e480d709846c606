use Rattle.std.proofs.Common.{take}
use Rattle.automaton_runs.specs.Leaves.{AreZeros}
use Rattle.automaton_runs.proofs.tails.is_zeros.Given as goal

abbrev pub invariant-loop-state : goal.invariant-loop-state
invariant-loop-state l = AreZeros (take l.state-index l.list)
