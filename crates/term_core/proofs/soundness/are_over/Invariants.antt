use Rattle.std.proofs.Common.{drop, map, ◌↔◌}
use Rattle.rewriting.specs.Prelude.{sides, Each, IsOver}
use Rattle.term_core.specs.RuleView.{condition_view}
use Rattle.term_core.proofs.soundness.are_over.Given as goal

abbrev pub invariant-loop-cond : goal.invariant-loop-cond
invariant-loop-cond l = Each (IsOver l.arities) (sides (map condition_view l.conds)) ↔ Each (IsOver l.arities) (sides (map condition_view (drop l.cond-index l.conds)))
