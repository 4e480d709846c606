use Rattle.tree_automata.proofs.Included.{IsInclusionBelow}
use Rattle.tree_automata.proofs.sides.inclusion.Given as goal

abbrev pub invariant-loop-p : goal.invariant-loop-p
invariant-loop-p l = IsInclusionBelow l.index l.p l.made
