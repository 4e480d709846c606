use Rattle.std.proofs.Common.{◌≡◌, drop, map}
use Rattle.rewriting.specs.Prelude.{occurs_in, right_sides}
use Rattle.term_core.specs.RuleView.{condition_view}
use Rattle.term_core.proofs.variables.occurs_in_right_sides.Given as goal

abbrev pub invariant-loop-cond : goal.invariant-loop-cond
invariant-loop-cond l = occurs_in l.x (right_sides (map condition_view l.conds)) ≡ occurs_in l.x (right_sides (map condition_view (drop l.cond-index l.conds)))
