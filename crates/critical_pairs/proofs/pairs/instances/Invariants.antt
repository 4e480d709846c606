use Rattle.std.proofs.Common.{◌≡◌, ◌++◌, take, map}
use Rattle.rewriting.specs.Prelude.{Fits, values_of, sides, Each, conditions_under}
use Rattle.term_core.specs.RuleView.{condition_view}
use Rattle.critical_pairs.proofs.pairs.instances.Given as goal

abbrev pub invariant-loop-cond : goal.invariant-loop-cond
invariant-loop-cond l = record {
  added : map condition_view l.out.items ≡ map condition_view l.fn.out.items ++ conditions_under (values_of l.m) (map condition_view (take l.cond-index l.conds));
  fit : Each Fits (sides (conditions_under (values_of l.m) (map condition_view (take l.cond-index l.conds))));
}
