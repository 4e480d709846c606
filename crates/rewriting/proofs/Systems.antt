-- The rules of a system by their places.
use Rattle.std.proofs.Common.{◌≡◌, ℕ, zero, suc, List, [], ◌∷◌, Some, slice_get, subst}
use Rattle.rewriting.specs.Rules.{Rule, System, rule_at}
use Rattle.rewriting.specs.Systems.{IsRule, AreRules, IsSystem}

pub is_rule_at : (arities : List ℕ) (rs : List Rule) (i : ℕ) (r : Rule) → AreRules arities rs → slice_get rs i ≡ Some r → IsRule arities r
is_rule_at arities [] i r all e = absurd (cc)
is_rule_at arities (q ∷ rs) zero r all e = let same : q ≡ r = cc in subst (IsRule arities) same all.0
is_rule_at arities (q ∷ rs) (suc i) r all e = is_rule_at arities rs i r all.1 e

pub numbered_rule : (sys : System) (i : ℕ) (r : Rule) → IsSystem sys → rule_at sys i ≡ Some r → IsRule sys.arities r
numbered_rule sys zero r h e = absurd (cc)
numbered_rule sys (suc i) r h e = is_rule_at sys.arities sys.rules i r h.rules e
