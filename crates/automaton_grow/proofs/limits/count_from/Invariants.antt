use Rattle.std.proofs.Common.{◌≡◌, ◌+◌, ◌≤◌, map, drop}
use Rattle.term_core.specs.RuleView.{rule_view}
use Rattle.automaton_grow.specs.Limits.{all_proper}
use Rattle.rewriting.specs.Systems.{DoSidesFit}
use Rattle.automaton_grow.proofs.limits.count_from.Given as goal

abbrev pub invariant-loop-rule : goal.invariant-loop-rule
invariant-loop-rule l = record {
  counted : l.count + all_proper (map rule_view (drop l.rule-index l.rules)) ≡ l.first + all_proper (map rule_view l.rules);
  fit : DoSidesFit (map rule_view (drop l.rule-index l.rules));
  small : l.count ≤ 20000;
}
