use Rattle.std.proofs.Common.{◌≡◌, ℕ, ◌+◌, ◌++◌, length, map, drop}
use Rattle.term_core.specs.RuleView.{rule_view}
use Rattle.rule_index.specs.Roots.{numbers_with_root}
use Rattle.rule_index.specs.Index.{listed, AreRootsBelow}
use Rattle.rule_index.proofs.Buckets.{lists}
use Rattle.rule_index.proofs.add_rules.Given as goal

abbrev pub invariant-rules : goal.invariant-rules
invariant-rules l = record {
  listed : (f : ℕ) → listed (lists l.buckets) f ++ numbers_with_root f l.number (map rule_view (drop l.rule-index l.rules)) ≡ listed (lists l.fn.buckets) f
      ++ numbers_with_root f 1 (map rule_view l.rules);
  roots : AreRootsBelow (length l.buckets) (map rule_view (drop l.rule-index l.rules));
  counted : l.number ≡ l.rule-index + 1;
}
