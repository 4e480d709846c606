use Rattle.std.proofs.Common.{drop, map, ◌↔◌}
use Rattle.rewriting.specs.Classes.{IsDefined}
use Rattle.term_core.specs.RuleView.{rule_view}
use Rattle.ctrs_classes.proofs.constructors.is_defined.Given as goal

abbrev pub invariant-loop-rule : goal.invariant-loop-rule
invariant-loop-rule l = IsDefined (map rule_view l.rule-items) l.symbol ↔ IsDefined (map rule_view (drop l.rule-index l.rule-items)) l.symbol
