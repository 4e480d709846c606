use Rattle.std.proofs.Common.{◌≡◌, drop, map}
use Rattle.term_core.specs.RuleView.{rule_view}
use Rattle.cops_write.specs.Text.{has_conditions}
use Rattle.cops_write.proofs.writer.is_conditional.Given as goal

abbrev pub invariant-rules : goal.invariant-rules
invariant-rules l = has_conditions (map rule_view (drop l.rule-index l.rules)) ≡ has_conditions (map rule_view l.rules)
