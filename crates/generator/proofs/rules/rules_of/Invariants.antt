use Rattle.std.proofs.Common.{◌≡◌, map}
use Rattle.term_core.specs.RuleView.{rule_view, AreCounted}
use Rattle.generated_systems.specs.Generated.{generated}
use Rattle.generator.proofs.rules.rules_of.Given as goal

abbrev pub invariant-rules : goal.invariant-rules
invariant-rules l = record { rules : map rule_view l.rules.items ≡ (generated l.k).rules; counted : AreCounted l.rules.items }
