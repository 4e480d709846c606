-- The limits on states and choices, rule by rule.
use Rattle.std.specs.Prelude.{ℕ, suc, ◌≡◌, ◌<◌, ◌≤◌, ◌^◌, List, length, slice_get, Option, None, Some, Result, Ok, Err}
use Rattle.automata.specs.declared.TheConstants.{MOST_GROWTH_CHOICES, MOST_GROWN_STATES}
use Rattle.rewriting.specs.Prelude.{Term, Rule, System, variable_occurrences}
use Rattle.automata.specs.Growth.{proper_before, state_count, AreStatesMany}
use Rattle.automaton_grow.specs.declared.GrowError.{GrowError}
use Rattle.automaton_grow.specs.declared.GrowError.TheVariants.{TooWide, TooManyStates, TooManyTransitions, NoMemory}

-- how many proper subterms that are no variables the right sides have
abbrev pub all_proper : List Rule → ℕ
all_proper rs = proper_before (length rs) rs

-- the count, where it is not too great
abbrev pub CountAnswers : ℕ → Option ℕ → Type 0
CountAnswers n (Some count) = (count ≡ n) × (count ≤ MOST_GROWN_STATES)
CountAnswers n None = MOST_GROWN_STATES < n

-- the number of states, where there are not too many
abbrev pub StatesAnswer : System → Term → Option ℕ → Type 0
StatesAnswer sys s (Some count) = (count ≡ state_count sys s) × (count ≤ MOST_GROWN_STATES)
StatesAnswer sys s None = AreStatesMany sys s

-- there are too many choices of so many states for the term
abbrev pub IsWideFor : ℕ → Term → Type 0
IsWideFor n t = MOST_GROWTH_CHOICES < n ^ length (variable_occurrences t)

-- none of the first k rules has a wide left side
abbrev pub AreNarrowBelow : ℕ → List Rule → ℕ → Type 0
AreNarrowBelow n rules k = (i : ℕ) (r : Rule) → i < k → slice_get rules i ≡ Some r → IsWideFor n r.left → ⊥

-- the rule with a number, from 1, is the first whose left side is wide
pub record IsFirstWideFor (n : ℕ) (rules : List Rule) (number : ℕ) : Type 0 where
  pub place : ℕ
  pub rule : Rule
  pub numbered : number ≡ suc place
  pub is_rule : slice_get rules place ≡ Some rule
  pub wide : IsWideFor n rule.left
  pub earlier : AreNarrowBelow n rules place

-- no left side is wide, or the first that is
abbrev pub WidthAnswers : ℕ → List Rule → Result (Unit {0}) GrowError → Type 0
WidthAnswers n rules (Ok _) = AreNarrowBelow n rules (length rules)
WidthAnswers n rules (Err (TooWide number)) = IsFirstWideFor n rules number
WidthAnswers n rules (Err TooManyStates) = ⊥
WidthAnswers n rules (Err TooManyTransitions) = ⊥
WidthAnswers n rules (Err NoMemory) = Unit {0}
