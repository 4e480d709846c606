use Rattle.std.proofs.Common.{◌≡◌, ◌++◌, map}
use Rattle.join_systems.specs.Joined.{joined_rule}
use Rattle.term_core.specs.RuleView.{rule_view, vars_of}
use Rattle.term_core.proofs.joins.joined_rules.Given as goal

abbrev pub invariant-loop-rule : goal.invariant-loop-rule
invariant-loop-rule l = record {
  views : map rule_view l.out.items ++ map (joined_rule l.fn.own) (map rule_view l.rule-iterator.rest.items) ≡ map (joined_rule l.fn.own) (map rule_view l.fn.rules.items);
  vars : map vars_of l.out.items ++ map vars_of l.rule-iterator.rest.items ≡ map vars_of l.fn.rules.items;
}
