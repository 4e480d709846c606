use Rattle.std.proofs.Common.{◌≡◌, ◌+◌, [], drop, map}
use Rattle.term_core.specs.RuleView.{rule_view}
use Rattle.cops_names.specs.NameLists.{with_names}
use Rattle.cops_write.specs.Text.{names_from}
use Rattle.cops_write.proofs.writer.collect_names.Given as goal

abbrev pub invariant-rules : goal.invariant-rules
invariant-rules l = record {
  added : with_names l.set (names_from l.names l.number (map rule_view (drop l.rule-index l.rules))) ≡ with_names [] (names_from l.names 1 (map rule_view l.rules));
  counted : l.number ≡ l.rule-index + 1;
}
