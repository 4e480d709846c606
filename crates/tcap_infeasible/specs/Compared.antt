-- What comparing the caps of two terms answers.
use Rattle.std.specs.Prelude.{ℕ, ◌+◌, ◌^◌, ◌⊎◌, List, Result, Ok, Err}
use Rattle.rewriting.specs.Terms as math
use Rattle.rewriting.specs.Prelude.{nil, cons, Substitution, apply, System, Reaches, AreApart}
use Rattle.unifier_run.specs.Run.{Binding, Outcome, unifier, clash, too_large, IsOutcome}
use Rattle.caps.specs.Caps.{Cap as MathCap, holes, filled, IsCapOf, IsCapLarge}
use Rattle.caps.specs.Evidence.{IsPairOutcome, IsPairLarge}
use Rattle.term_core.specs.declared.terms.NoMemory.{NoMemory}
use Rattle.tcap_infeasible.specs.declared.capping.Leaf.{Leaf}
use Rattle.tcap_infeasible.specs.Frozen.{leaf_of, standing}
use Rattle.tcap_infeasible.specs.declared.comparing.ComparedCaps.{ComparedCaps}
use Rattle.tcap_infeasible.specs.declared.comparing.ComparedCaps.TheVariants.{Clash, Unify, TooLarge}

-- the outcome of the run for the caps of two terms, or there is none
abbrev pub PairAnswers : System → (ℕ → MathCap) → math.Term → math.Term → Result ComparedCaps NoMemory → Type 0
PairAnswers sys leaf u v (Ok Clash) = IsPairOutcome sys leaf u v clash
PairAnswers sys leaf u v (Ok Unify) = (b : List Binding) × IsPairOutcome sys leaf u v (unifier b)
PairAnswers sys leaf u v (Ok TooLarge) = IsPairLarge sys leaf u v
PairAnswers sys leaf u v (Err e) = Unit {0}

-- where the caps clash, no instances of the terms reach one term
abbrev pub KeepsInstancesApart : System → math.Term → math.Term → Result ComparedCaps NoMemory → Type 0
KeepsInstancesApart sys u v (Ok Clash) = (s r : Substitution) (w : math.Term) → Reaches sys (apply s u) w → Reaches sys (apply r v) w → ⊥
KeepsInstancesApart sys u v (Ok Unify) = Unit {0}
KeepsInstancesApart sys u v (Ok TooLarge) = Unit {0}
KeepsInstancesApart sys u v (Err e) = Unit {0}

-- where rigid caps clash, the terms have no common reduct
abbrev pub GivesApart : System → math.Term → math.Term → Result ComparedCaps NoMemory → Type 0
GivesApart sys u v (Ok Clash) = AreApart sys u v
GivesApart sys u v (Ok Unify) = Unit {0}
GivesApart sys u v (Ok TooLarge) = Unit {0}
GivesApart sys u v (Err e) = Unit {0}

-- the outcome for caps whose holes are numbered in one row, from 2^31 on
pub record IsFrozenOutcome (sys : System) (leaf : Leaf) (u v : math.Term) (o : Outcome) : Type 0 where
  pub first : MathCap
  pub second : MathCap
  pub is_first : IsCapOf sys (leaf_of leaf) u first
  pub is_second : IsCapOf sys (leaf_of leaf) v second
  pub outcome : IsOutcome (cons (filled (standing leaf) (2 ^ 31) first) nil) (cons (filled (standing leaf) (2 ^ 31 + holes first) second) nil) o

abbrev pub FrozenPairAnswers : System → Leaf → math.Term → math.Term → Result ComparedCaps NoMemory → Type 0
FrozenPairAnswers sys leaf u v (Ok Clash) = IsFrozenOutcome sys leaf u v clash
FrozenPairAnswers sys leaf u v (Ok Unify) = (b : List Binding) × IsFrozenOutcome sys leaf u v (unifier b)
FrozenPairAnswers sys leaf u v (Ok TooLarge) = (IsCapLarge sys (leaf_of leaf) u ⊎ IsCapLarge sys (leaf_of leaf) v) ⊎ IsFrozenOutcome sys leaf u v too_large
FrozenPairAnswers sys leaf u v (Err e) = Unit {0}
