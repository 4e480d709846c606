-- The rules of a generated system, one by one.
use Rattle.std.specs.Prelude.{◌≡◌, ℕ, List, [], ◌∷◌, ◌++◌, length, map, Some, slice_get}
use Rattle.rewriting.specs.Terms as math
use Rattle.rewriting.specs.Prelude.{app, nil, rule_variables}
use Rattle.rewriting.specs.Rules as math_rules
use Rattle.term_core.specs.RuleView.{rule_view, AreCounted}
use Rattle.term_core.specs.declared.systems.Rule.{Rule}
use Rattle.generated_systems.specs.Generated.{rules_for, f_of, p_of, x}

-- fk(x) -> right | pk(x) == value, of a constant
abbrev pub guarded : ℕ → math.Term → ℕ → math_rules.Rule
guarded k right value = record { left = f_of k x; right = right; conditions = record { left = p_of k x; right = app value nil } ∷ [] }

-- the rule with this place, from 0, among those for k, and it tells the number of its variables
pub record IsRuleAt (k place : ℕ) (r : Rule) : Type 0 where
  pub is : slice_get (rules_for k) place ≡ Some (rule_view r)
  pub counted : r.vars ≡ length (rule_variables (rule_view r))

-- the rules for k stand behind the earlier ones, and tell the number of their variables where those do
pub record AreAdded (k : ℕ) (old new : List Rule) : Type 0 where
  pub rules : map rule_view new ≡ map rule_view old ++ rules_for k
  pub counted : AreCounted old → AreCounted new
