use Rattle.std.proofs.Common.{take}
use Rattle.automaton_runs.specs.Indexed.{pointed}
use Rattle.tree_automata.specs.Open.{HaveTwins}
use Rattle.tree_automata.proofs.sides.includes.Given as goal

abbrev pub invariant-loop-transition : goal.invariant-loop-transition
invariant-loop-transition l = HaveTwins l.index (pointed (take l.transition-index l.transition-items)) l.q
