use Rattle.std.proofs.Common.{◌≡◌, ◌↔◌, ◌++◌, map, drop}
use Rattle.rewriting.specs.Prelude.{values_of, conditions_under}
use Rattle.certificates.specs.Sizes.{DoConditionsFit}
use Rattle.term_core.specs.RuleView.{condition_view}
use Rattle.redex_conditions.proofs.conditions.instances.Given as goal

abbrev pub invariant-loop-cond : goal.invariant-loop-cond
invariant-loop-cond l = record {
  out : map condition_view l.out.items ++ conditions_under (values_of l.values) (map condition_view (drop l.cond-index l.conds)) ≡ conditions_under (values_of l.values) (map condition_view l.conds);
  fit : DoConditionsFit (conditions_under (values_of l.values) (map condition_view (drop l.cond-index l.conds))) ↔ DoConditionsFit (conditions_under (values_of l.values) (map condition_view l.conds));
  rest : DoConditionsFit (map condition_view (drop l.cond-index l.conds));
}
