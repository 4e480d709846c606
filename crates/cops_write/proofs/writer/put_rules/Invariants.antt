use Rattle.std.proofs.Common.{◌≡◌, ◌+◌, drop, map}
use Rattle.term_core.specs.RuleView.{rule_view}
use Rattle.cops_write.specs.Text.{rules_text}
use Rattle.cops_write.proofs.Growing.{Leads}
use Rattle.cops_write.proofs.writer.put_rules.Given as goal

abbrev pub invariant-rules : goal.invariant-rules
invariant-rules l = record {
  leads : Leads l.fn.out.items (rules_text l.names 1 (map rule_view l.rules)) l.out.items (rules_text l.names l.number (map rule_view (drop l.rule-index l.rules)));
  counted : l.number ≡ l.rule-index + 1;
}
