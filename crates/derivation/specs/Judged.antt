-- What the parts of judging answer.
use Rattle.std.specs.Prelude.{◌≡◌, ◌⊎◌, ◌≤◌, ℕ, List, length, Some, None}
use Rattle.rewriting.specs.Terms as math
use Rattle.rewriting.specs.Prelude.{Position, subterm, replace, Bindings, apply, values_of, HasNoMatch, IsLeastMatch, Covers, Rule, Condition, System}
use Rattle.std.specs.FinMap.{empty}
use Rattle.certificates.specs.Prelude.{StepReason, unbound, too_large, DoConditionsFit, Derivation, Derives, FailsFrom, ConditionMet, ConditionFails}
use Rattle.term_core.specs.View.{view}
use Rattle.derivation.specs.declared.places.Counted.{Counted}
use Rattle.derivation.specs.declared.places.Opened.{Opened}
use Rattle.derivation.specs.declared.instances.Found.{Found}

-- the instance of a term is none: a variable has no value, or the instance does not fit
abbrev pub HasNoInstance : Bindings → math.Term → StepReason → Type 0
HasNoInstance b t reason =
    ((reason ≡ unbound) × (Covers b t → ⊥)) ⊎ ((reason ≡ too_large) × Covers b t × (math.Fits (apply (values_of b) t) → ⊥))

-- the instance of a term whose variables are bound, where it fits
pub record IsInstance (b : Bindings) (t u : math.Term) : Type 0 where
  pub covered : Covers b t
  pub is : u ≡ apply (values_of b) t
  pub fits : math.Fits u

-- a term that fits, with its number of nodes
pub record IsCounted (u : Counted) : Type 0 where
  pub nodes : math.size (view u.term) ≡ u.nodes
  pub fits : math.Fits (view u.term)

-- what stands at the position, and the term with a variable there
pub record IsOpened (t : math.Term) (p : Position) (o : Opened) : Type 0 where
  pub part : subterm t p ≡ Some (view o.part)
  pub rest : replace t p (math.var 0) ≡ Some (view o.rest.term)
  pub counted : IsCounted o.rest

-- the least match of a pattern at the position, and the term with a variable there
pub record IsMatch (pattern t : math.Term) (p : Position) (found : Found) : Type 0 where
  pub part : math.Term
  pub stands : subterm t p ≡ Some part
  pub matches : IsLeastMatch empty found.values pattern part
  pub rest : replace t p (math.var 0) ≡ Some (view found.rest.term)
  pub counted : IsCounted found.rest

-- no match there
abbrev pub IsUnmatchedAt : math.Term → math.Term → Position → Type 0
IsUnmatchedAt pattern t p = (subterm t p ≡ None) ⊎ ((part : math.Term) × (subterm t p ≡ Some part) × HasNoMatch empty pattern part)

-- the subterm at the position has a number of nodes
abbrev pub HasSizeAt : math.Term → Position → ℕ → Type 0
HasSizeAt t p n = (part : math.Term) × (subterm t p ≡ Some part) × (math.size part ≡ n)

-- the instance of the right side under the values stands at the position of t in u
pub record IsContracted (right : math.Term) (values : Bindings) (t : math.Term) (p : Position) (u : math.Term) : Type 0 where
  pub covered : Covers values right
  pub result : replace t p (apply (values_of values) right) ≡ Some u

-- there is no such term: a variable has no value, or the term does not fit
abbrev pub HasNoContractum : math.Term → Bindings → math.Term → Position → StepReason → Type 0
HasNoContractum right values t p reason =
    ((reason ≡ unbound) × (Covers values right → ⊥))
    ⊎ ((reason ≡ too_large) × Covers values right × ((u : math.Term) → replace t p (apply (values_of values) right) ≡ Some u → math.Fits u → ⊥))

-- the right side of a rule fits, and so do its conditions, at most 100
pub record IsJudgable (r : Rule) : Type 0 where
  pub right : math.Fits r.right
  pub conditions : DoConditionsFit r.conditions
  pub few : length r.conditions ≤ 100

-- a condition is met by its derivation, and how the values grow
abbrev pub Fulfils : System → List Condition → Derivation → Bindings → Condition → Bindings → Type 0
Fulfils sys hyps d b c after = ConditionMet (λ t u. Derives sys hyps t d u) b c after

-- it is not met: where below its derivation, if there, and why
abbrev pub Misses : System → List Condition → Derivation → Bindings → Condition → List ℕ → StepReason → Type 0
Misses sys hyps d b c path reason = ConditionFails (λ t u. Derives sys hyps t d u) (λ t inner why. FailsFrom sys hyps 1 t d inner why) b c path reason
