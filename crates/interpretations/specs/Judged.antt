-- The judgement of a linear interpretation: good, or the first reason why it is not.
use Rattle.std.specs.Prelude.{ℕ, suc, ◌≡◌, ◌<◌, ◌≤◌, ◌⊎◌, Some, slice_get, length}
use Rattle.rewriting.specs.Prelude.{Rule, System, rule_at, unraveled, heads}
use Rattle.certificates.specs.Prelude.{LinearEntry, wrong_shape, wrong_coefficient, overflow_at, smaller_variable, smaller_constant, not_ordered}
use Rattle.interpretations.specs.Size.{DoesUnravelingFit, IsFirstTooLarge}
use Rattle.interpretations.specs.Judgement.{Judgement, good, not_good, unraveling_large}
use Rattle.interpretations.specs.Linear.{Interpretation, coefficient, constant, IsEntry, HasShape, AreNumbersGood, AreAllNumbersGood, Overflows, AreCoefficientsKept, Falls, IsGood}

-- the entry with place k, from 0, is the first that is wrong, missing or surplus
pub record IsFirstMisshapen (sys : System) (es : Interpretation) (k : ℕ) : Type 0 where
  pub place : (k < length es) ⊎ (k < length (heads sys))
  pub before : (j : ℕ) → j < k → IsEntry sys es j
  pub here : IsEntry sys es k → ⊥

-- the numbers of symbol k are the first that are not good
pub record IsFirstBad (sys : System) (es : Interpretation) (k : ℕ) : Type 0 where
  pub entry : LinearEntry
  pub is_entry : slice_get es k ≡ Some entry
  pub before : (j : ℕ) (e : LinearEntry) → j < k → slice_get es j ≡ Some e → AreNumbersGood sys j e.coefficients
  pub here : AreNumbersGood sys k entry.coefficients → ⊥

-- rule n of the unraveled system is the first at which the value does not fall, and this is why
pub record FailsAt (sys : System) (es : Interpretation) (n : ℕ) (Why : Rule → Type 0) : Type 0 where
  pub rule : Rule
  pub is_rule : rule_at (unraveled sys) n ≡ Some rule
  pub before : (j : ℕ) (r : Rule) → j < n → rule_at (unraveled sys) j ≡ Some r → Falls es r
  pub here : Why rule

-- x is the least variable whose coefficient is greater on the right
abbrev pub IsFirstSmaller : Interpretation → ℕ → Rule → Type 0
IsFirstSmaller es x r =
    (Overflows es r → ⊥) × (coefficient es x r.left < coefficient es x r.right) × ((y : ℕ) → y < x → coefficient es y r.right ≤ coefficient es y r.left)

-- the coefficients are kept, and the constant on the left is not greater
abbrev pub IsConstantKept : Interpretation → Rule → Type 0
IsConstantKept es r = (Overflows es r → ⊥) × AreCoefficientsKept es r × (constant es r.left ≤ constant es r.right)

-- what the interpretation is judged to be: the first in this order; entries, rules and rules of the unraveled system are numbered from 1
abbrev pub IsInterpretationJudged : System → Interpretation → Judgement → Type 0
IsInterpretationJudged sys es good = DoesUnravelingFit sys × IsGood sys es
IsInterpretationJudged sys es (not_good (wrong_shape m)) = DoesUnravelingFit sys × ((k : ℕ) × (m ≡ suc k) × IsFirstMisshapen sys es k)
IsInterpretationJudged sys es (not_good (wrong_coefficient m)) = DoesUnravelingFit sys × HasShape sys es × ((k : ℕ) × (m ≡ suc k) × IsFirstBad sys es k)
IsInterpretationJudged sys es (not_good (overflow_at n)) = DoesUnravelingFit sys × HasShape sys es × AreAllNumbersGood sys es × FailsAt sys es n (Overflows es)
IsInterpretationJudged sys es (not_good (smaller_variable n x)) = DoesUnravelingFit sys × HasShape sys es × AreAllNumbersGood sys es × FailsAt sys es n (IsFirstSmaller es x)
IsInterpretationJudged sys es (not_good (smaller_constant n)) = DoesUnravelingFit sys × HasShape sys es × AreAllNumbersGood sys es × FailsAt sys es n (IsConstantKept es)
IsInterpretationJudged sys es (not_good (not_ordered n)) = ⊥
IsInterpretationJudged sys es (unraveling_large i) = IsFirstTooLarge sys i
