-- Variables numbered by first occurrence.
use Rattle.std.specs.Prelude.{◌≡◌, ◌^◌, ◌<◌, ℕ, zero, suc, List, [], ◌∷◌, length}
use Rattle.rewriting.specs.Systems.{CountsFrom, rule_variables}
use Rattle.term_core.specs.RuleView.{rule_view}
use Rattle.term_core.specs.declared.systems.Rule.{Rule}

-- the variables are 0, 1, .. by first occurrence, and the rule tells their number, which is below 2^31
pub record IsNumbered (r : Rule) : Type 0 where
  pub numbered : CountsFrom 0 (rule_variables (rule_view r))
  pub counted : r.vars ≡ length (rule_variables (rule_view r))
  pub few : r.vars < 2 ^ 31

-- n numbers in order, from k
abbrev pub numbers_from : ℕ → ℕ → List ℕ
numbers_from k zero = []
numbers_from k (suc n) = k ∷ numbers_from (suc k) n

-- the variables are 0, 1, .., and their number m is below 2^31
pub record AreFirst (xs : List ℕ) (m : ℕ) : Type 0 where
  pub are : xs ≡ numbers_from 0 m
  pub few : m < 2 ^ 31
