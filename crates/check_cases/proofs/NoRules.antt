-- A slice without a rule.
use Rattle.std.proofs.Common.{◌≡◌, ◌<◌, List, [], ◌∷◌, length, map, sym, arith}
use Rattle.rewriting.specs.Rules.{Rule}
use Rattle.term_core.specs.RuleView.{rule_view}
use Rattle.term_core.specs.declared.systems.Rule as rules

pub empty_rules : (rs : List rules.Rule) (qs : List Rule) → map rule_view rs ≡ qs → length rs < 1 → qs ≡ []
empty_rules [] qs e h = sym e
empty_rules (r ∷ rs) qs e h = absurd (omega (arith, h))
