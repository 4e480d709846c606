-- Whether the sides of an unraveled system fit.
use Rattle.std.specs.Prelude.{ℕ, zero, suc, ◌≡◌, ◌+◌, ◌<◌, Some, length, take}
use Rattle.rewriting.specs.Prelude.{Rule, System, rule_at, DoSidesFit, condition_count, unraveled_rule}

-- the number of the first auxiliary symbol of a rule: it stands behind the system's symbols and those for all earlier conditions
abbrev pub first_keeper : System → ℕ → ℕ
first_keeper sys zero = length sys.arities
first_keeper sys (suc i) = length sys.arities + condition_count (take i sys.rules)

-- both sides of each rule of the unraveled system that comes from rule i fit
abbrev pub DoesRuleFit : System → ℕ → Rule → Type 0
DoesRuleFit sys i q = DoSidesFit (unraveled_rule (first_keeper sys i) q)

-- the same for every rule
abbrev pub DoesUnravelingFit : System → Type 0
DoesUnravelingFit sys = (i : ℕ) (q : Rule) → rule_at sys i ≡ Some q → DoesRuleFit sys i q

-- rule i is the first of which a side does not fit
pub record IsFirstTooLarge (sys : System) (i : ℕ) : Type 0 where
  pub rule : Rule
  pub is_rule : rule_at sys i ≡ Some rule
  pub before : (j : ℕ) (q : Rule) → j < i → rule_at sys j ≡ Some q → DoesRuleFit sys j q
  pub here : DoesRuleFit sys i rule → ⊥
