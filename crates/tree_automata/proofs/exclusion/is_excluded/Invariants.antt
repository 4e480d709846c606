use Rattle.term_core.specs.View.{view}
use Rattle.tree_automata.specs.Batches.{HoldsBelow}
use Rattle.tree_automata.proofs.Batches.{IsNot}
use Rattle.tree_automata.proofs.exclusion.is_excluded.Given as goal

abbrev pub invariant-loop-front : goal.invariant-loop-front
invariant-loop-front l = HoldsBelow l.index (view l.t) (IsNot l.index (view l.t)) l.choices l.front-index
