use Rattle.std.proofs.Common.{map, take}
use Rattle.term_core.specs.RuleView.{rule_view}
use Rattle.tree_automata.specs.Open.{HaveSides}
use Rattle.tree_automata.proofs.closure.have_sides.Given as goal

abbrev pub invariant-loop-other : goal.invariant-loop-other
invariant-loop-other l = HaveSides (map rule_view (take l.other-index l.rules)) (rule_view l.rule) → ⊥
