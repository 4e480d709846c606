use Rattle.std.proofs.Common.{◌≡◌, drop}
use Rattle.automata.specs.Closed as closed
use Rattle.automaton_grow.proofs.sides.state_of.Given as goal

abbrev pub invariant-loop-i : goal.invariant-loop-i
invariant-loop-i l = closed.state_of (drop l.i l.leaves) (drop l.i l.states) l.x ≡ closed.state_of l.leaves l.states l.x
