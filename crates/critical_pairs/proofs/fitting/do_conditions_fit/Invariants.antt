use Rattle.std.proofs.Common.{◌↔◌, drop, map}
use Rattle.rewriting.specs.Prelude.{Fits, values_of, sides, Each, conditions_under}
use Rattle.term_core.specs.RuleView.{condition_view}
use Rattle.critical_pairs.proofs.fitting.do_conditions_fit.Given as goal

abbrev pub invariant-loop-cond : goal.invariant-loop-cond
invariant-loop-cond l = Each Fits (sides (conditions_under (values_of l.m) (map condition_view l.conds)))
    ↔ Each Fits (sides (conditions_under (values_of l.m) (map condition_view (drop l.cond-index l.conds))))
