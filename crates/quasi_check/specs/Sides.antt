-- What the walks over right sides of conditions answer.
use Rattle.std.specs.Prelude.{ℕ, suc, ◌≡◌, ◌<◌, List, Option, None, Some}
use Rattle.rewriting.specs.Prelude.{Condition, System, IsAt}
use Rattle.unifier_run.specs.Irreducible.{DoAllClash}
use Rattle.valid_certificates.specs.Confluence.{AreRightSidesIrreducible, IsFirstReducible}
use Rattle.quasi_check.specs.declared.sides.SidePlace.{SidePlace}

-- the right side of each condition is absolutely irreducible, by the runs
abbrev pub DoSidesClash : System → List Condition → Type 0
DoSidesClash sys cs = (n : ℕ) (c : Condition) → IsAt cs n c → DoAllClash sys c.right

-- condition k, from 1, is the first whose right side is not
pub record IsFirstCondition (sys : System) (cs : List Condition) (k : ℕ) : Type 0 where
  pub condition : Condition
  pub place : ℕ
  pub number : k ≡ suc place
  pub is_condition : IsAt cs place condition
  pub earlier : (n : ℕ) (c : Condition) → n < place → IsAt cs n c → DoAllClash sys c.right
  pub fails : DoAllClash sys condition.right → ⊥

-- the first condition of some, or none
abbrev pub ConditionAnswers : System → List Condition → Option ℕ → Type 0
ConditionAnswers sys cs None = DoSidesClash sys cs
ConditionAnswers sys cs (Some k) = IsFirstCondition sys cs k

-- the first of all rules, or none
abbrev pub SideAnswers : System → Option SidePlace → Type 0
SideAnswers sys None = AreRightSidesIrreducible sys
SideAnswers sys (Some place) = IsFirstReducible sys place.rule place.cond
