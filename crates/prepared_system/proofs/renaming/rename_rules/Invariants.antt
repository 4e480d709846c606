use Rattle.std.proofs.Common.{◌≡◌, take, map}
use Rattle.term_core.specs.RuleView.{rule_view}
use Rattle.unification.specs.Answers.{renaming}
use Rattle.prepared_system.specs.Renamed.{rule_under}
use Rattle.prepared_system.proofs.renaming.rename_rules.Given as goal

abbrev pub invariant-loop-rule : goal.invariant-loop-rule
invariant-loop-rule l = map rule_view l.out.items ≡ map (rule_under (renaming 2 l.add)) (map rule_view (take l.rule-index l.rules))
