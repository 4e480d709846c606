use Rattle.rewriting.specs.Variables.{variable_occurrences}
use Rattle.term_core.specs.View.{view}
use Rattle.tree_automata.specs.Kept.{IsKeptBy}
use Rattle.tree_automata.specs.Batches.{HoldsBelow}
use Rattle.tree_automata.proofs.closure.first_open.Given as goal

abbrev pub invariant-loop-front : goal.invariant-loop-front
invariant-loop-front l = HoldsBelow l.index (view l.rule.left) (IsKeptBy l.inclusion l.index (variable_occurrences (view l.rule.left)) (view l.rule.right)) l.choices l.front-index
