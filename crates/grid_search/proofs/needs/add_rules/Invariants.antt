use Rattle.std.proofs.Common.{◌≡◌, ℕ, ◌+◌, ◌++◌, length, map, drop}
use Rattle.term_core.specs.RuleView.{rule_view}
use Rattle.grid_search.specs.Needed.{DoNeedBelow, numbers_needing}
use Rattle.unravel.specs.Listed.{listed}
use Rattle.grid_search.proofs.needs.add_rules.Given as goal

abbrev pub invariant-rules : goal.invariant-rules
invariant-rules l = record {
  listed : (k : ℕ) → listed l.lists k ++ numbers_needing k l.number (map rule_view (drop l.rule-index l.rules)) ≡ listed l.fn.lists k ++ numbers_needing k 1 (map rule_view l.rules);
  needs : DoNeedBelow (length l.lists) (map rule_view (drop l.rule-index l.rules));
  counted : l.number ≡ l.rule-index + 1;
}
