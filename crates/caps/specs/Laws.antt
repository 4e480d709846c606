-- Laws of caps.
use Rattle.std.specs.Prelude.{ℕ, ◌≡◌, ◌<◌, List, true, Option, None}
use Rattle.rewriting.specs.Prelude.{Term, var, Substitution, apply, Matches, occurs, Condition, System, IsWellFormed, Reaches, IsInfeasible, AreApart}
use Rattle.certificates.specs.Reasons.{EvidenceReason}
use Rattle.unifier_run.specs.Run.{Outcome, clash}
use Rattle.caps.specs.Caps.{Cap, any, kept, filled, IsCapOf, IsCapLarge}
use Rattle.caps.specs.Evidence.{JudgedByCaps, IsPairOutcome, IsRigidOutcome}

-- what an instance of a term reaches is an instance of the term's cap
abbrev pub CapsKeepReducts : Type 0
CapsKeepReducts =
    (sys : System) (t : Term) (c : Cap) (n : ℕ) (s : Substitution) (w : Term) → IsCapOf sys any t c → Reaches sys (apply s t) w → Matches (filled var n c) w

-- w is the term under a substitution that leaves every variable below n
pub record IsReductOf (n : ℕ) (cap w : Term) : Type 0 where
  pub by : Substitution
  pub leaves : (x : ℕ) → x < n → by x ≡ var x
  pub instance : apply by cap ≡ w

-- what a term reaches is the term's rigid cap with terms in its holes, where no left side is a variable
abbrev pub RigidCapsKeepReducts : Type 0
RigidCapsKeepReducts =
    (sys : System) (t : Term) (c : Cap) (n : ℕ) (w : Term) → IsWellFormed sys → IsCapOf sys kept t c → ((x : ℕ) → occurs x t ≡ true → x < n) → Reaches sys t w
    → IsReductOf n (filled var n c) w

-- conditions that caps judge to be never met are infeasible
abbrev pub CapsRefute : Type 0
CapsRefute = (sys : System) (cs : List Condition) → JudgedByCaps sys cs None → IsInfeasible sys cs

-- instances of terms whose caps clash have no common reduct
abbrev pub CapsKeepApart : Type 0
CapsKeepApart =
    (sys : System) (u v : Term) (s r : Substitution) (w : Term) → IsPairOutcome sys any u v clash → Reaches sys (apply s u) w → Reaches sys (apply r v) w → ⊥

-- terms whose rigid caps clash have no common reduct, where no left side is a variable
abbrev pub RigidCapsKeepApart : Type 0
RigidCapsKeepApart = (sys : System) (u v : Term) → IsWellFormed sys → IsRigidOutcome sys u v clash → AreApart sys u v

-- a term has at most one cap, and none where a run passes the size
pub record IsOneCap (sys : System) (leaf : ℕ → Cap) (t : Term) : Type 0 where
  pub one : (c d : Cap) → IsCapOf sys leaf t c → IsCapOf sys leaf t d → c ≡ d
  pub never_both : (c : Cap) → IsCapOf sys leaf t c → IsCapLarge sys leaf t → ⊥

abbrev pub CapsAreUnique : Type 0
CapsAreUnique = (sys : System) (leaf : ℕ → Cap) (t : Term) → IsOneCap sys leaf t

-- so conditions have one judgement, and two terms one outcome
abbrev pub JudgementsAreUnique : Type 0
JudgementsAreUnique = (sys : System) (cs : List Condition) (o p : Option EvidenceReason) → JudgedByCaps sys cs o → JudgedByCaps sys cs p → o ≡ p

pub record IsOneOutcome (sys : System) (leaf : ℕ → Cap) (u v : Term) : Type 0 where
  pub one : (o p : Outcome) → IsPairOutcome sys leaf u v o → IsPairOutcome sys leaf u v p → o ≡ p
  pub never_both : (o : Outcome) → IsPairOutcome sys leaf u v o → (IsCapLarge sys leaf u → ⊥) × (IsCapLarge sys leaf v → ⊥)

abbrev pub OutcomesAreUnique : Type 0
OutcomesAreUnique = (sys : System) (leaf : ℕ → Cap) (u v : Term) → IsOneOutcome sys leaf u v
