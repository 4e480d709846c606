-- What caps show: that conditions are never met, and that two terms have no common reduct.
use Rattle.std.specs.Prelude.{ℕ, ◌⊎◌, max, List, Option, None, Some}
use Rattle.rewriting.specs.Prelude.{Term, var, nil, cons, apply, apply_all, even, odd, Condition, System, left_sides, right_sides}
use Rattle.unifier_run.specs.Run.{Binding, Outcome, unifier, clash, too_large, IsOutcome}
use Rattle.certificates.specs.Reasons.{EvidenceReason, tcap_unifies, tcap_large}
use Rattle.caps.specs.Caps.{Cap, Caps, kept, any, all_filled, past, frozen_from, IsCapOf, AreCapsOf, IsCapLarge, AreCapsLarge}

-- the outcome of the run for the caps of the conditions' left sides and their right sides, which share no variable
pub record IsCapOutcome (sys : System) (cs : List Condition) (o : Outcome) : Type 0 where
  pub lefts : Caps
  pub are : AreCapsOf sys any (left_sides cs) lefts
  pub outcome : IsOutcome (apply_all even (all_filled var 0 lefts)) (apply_all odd (right_sides cs)) o

-- conditions are judged by caps: with no reason, they are never met; else the reason why that is not shown
abbrev pub JudgedByCaps : System → List Condition → Option EvidenceReason → Type 0
JudgedByCaps sys cs None = IsCapOutcome sys cs clash
JudgedByCaps sys cs (Some tcap_unifies) = (b : List Binding) × IsCapOutcome sys cs (unifier b)
JudgedByCaps sys cs (Some tcap_large) = AreCapsLarge sys any (left_sides cs) ⊎ IsCapOutcome sys cs too_large
JudgedByCaps sys cs (Some _) = ⊥

-- the first number that is greater than all symbols of the system and of two caps
abbrev pub past_both : System → Cap → Cap → ℕ
past_both sys c d = max (past sys c) (past sys d)

-- the outcome of the run for the caps of two terms: variables that stay are the same constants in both, which are symbols
-- of neither, and no hole of the one is a hole of the other
pub record IsPairOutcome (sys : System) (leaf : ℕ → Cap) (u v : Term) (o : Outcome) : Type 0 where
  pub first : Cap
  pub second : Cap
  pub is_first : IsCapOf sys leaf u first
  pub is_second : IsCapOf sys leaf v second
  pub outcome : IsOutcome (cons (apply even (frozen_from (past_both sys first second) first)) nil) (cons (apply odd (frozen_from (past_both sys first second) second)) nil) o

-- there is no outcome, since a term has no cap, or the run passes the size
abbrev pub IsPairLarge : System → (ℕ → Cap) → Term → Term → Type 0
IsPairLarge sys leaf u v = (IsCapLarge sys leaf u ⊎ IsCapLarge sys leaf v) ⊎ IsPairOutcome sys leaf u v too_large

-- the same for rigid caps, in which every variable stays
abbrev pub IsRigidOutcome : System → Term → Term → Outcome → Type 0
IsRigidOutcome sys u v o = IsPairOutcome sys kept u v o

abbrev pub AreRigidCapsLarge : System → Term → Term → Type 0
AreRigidCapsLarge sys u v = IsPairLarge sys kept u v
