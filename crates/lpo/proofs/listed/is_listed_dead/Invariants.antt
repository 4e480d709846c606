use Rattle.lpo.proofs.Noting.{AreAliveSoFar}
use Rattle.term_core.specs.RuleView.{rule_view}
use Rattle.std.proofs.Common.{map}
use Rattle.lpo.proofs.listed.is_listed_dead.Given as goal

abbrev pub invariant-numbers : goal.invariant-numbers
invariant-numbers l = AreAliveSoFar l.places (map rule_view l.rules) l.numbers l.number-index
