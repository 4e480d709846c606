use Rattle.std.proofs.Common.{map, take}
use Rattle.term_core.specs.RuleView.{rule_view}
use Rattle.rule_index.specs.Linear.{TellLinear}
use Rattle.rule_index.proofs.indexed.linear_lefts.Given as goal

abbrev pub invariant-loop-rule : goal.invariant-loop-rule
invariant-loop-rule l = TellLinear (map rule_view (take l.rule-index l.rules)) l.linear.items
