use Rattle.number_sets.specs.Sets.{members}
use Rattle.tree_automata.proofs.Included.{IsPart}
use Rattle.tree_automata.proofs.sides.including.Given as goal

abbrev pub invariant-loop-q : goal.invariant-loop-q
invariant-loop-q l = IsPart l.index l.p l.q (members l.set)
