use Rattle.std.proofs.Common.{drop, map, ◌↔◌}
use Rattle.term_core.specs.Prelude.{view, rule_view}
use Rattle.matching.specs.Lists.{HaveNoInstance}
use Rattle.matching.proofs.normal.rules_match_nowhere.Given as goal

abbrev pub invariant-loop-rule : goal.invariant-loop-rule
invariant-loop-rule l = HaveNoInstance (map rule_view l.rules) (view l.t) ↔ HaveNoInstance (map rule_view (drop l.rule-index l.rules)) (view l.t)
