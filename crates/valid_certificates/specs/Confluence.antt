-- Certificates that show that a system is confluent, and why one is rejected.
use Rattle.std.specs.Prelude.{ℕ, ◌≡◌, ◌⊎◌, ◌<◌, suc, List, Some}
use Rattle.rewriting.specs.Prelude.{Condition, Rule, System, rule_at, IsAt, IsLeftLinear, IsType3, IsExtendedOriented, IsRightStable, IsDeterministic}
use Rattle.unifier_run.specs.Irreducible.{DoAllClash}
use Rattle.interpretations.specs.Judgement.{Judgement, good, not_good, unraveling_large}
use Rattle.certificates.specs.Prelude.{PairEntry, Class, left_linear, type3, extended_oriented, right_stable, deterministic, Blame, MeasureReason, Rejection, class_fails, not_irreducible}
use Rattle.certificates.specs.Prelude.{measure_fails, unraveling_large as large_unraveling, IsBlamed}
use Rattle.valid_certificates.specs.Kinds.{ortho, quasi}
use Rattle.valid_certificates.specs.Entries.{DoSettle, DoNotSettle}

-- the system is left-linear, of type 3, extended properly oriented and right-stable
pub record IsInOrthoClasses (sys : System) : Type 0 where
  pub left_linear : IsLeftLinear sys
  pub type3 : IsType3 sys
  pub oriented : IsExtendedOriented sys
  pub right_stable : IsRightStable sys

-- the certificate of an almost orthogonal system is valid (after Suzuki, Middeldorp, Ida 1995)
pub record IsValidOrtho (sys : System) (es : List PairEntry) : Type 0 where
  pub classes : IsInOrthoClasses sys
  pub pairs : DoSettle ortho sys es

-- the blame names the class and its first rule that is not in it
pub record IsBlameOf (sys : System) (class : Class) (blame : Blame) : Type 0 where
  pub names : blame.class ≡ class
  pub blamed : IsBlamed sys blame

-- the first reason, in the order of judging, why it is not
pub data IsOrthoRejected (sys : System) (es : List PairEntry) : Rejection → Type 0 where
  not_left_linear : (blame : Blame) → IsBlameOf sys left_linear blame → IsOrthoRejected sys es (class_fails blame)
  not_type3 : (blame : Blame) → IsLeftLinear sys → IsBlameOf sys type3 blame → IsOrthoRejected sys es (class_fails blame)
  not_oriented : (blame : Blame) → IsLeftLinear sys → IsType3 sys → IsBlameOf sys extended_oriented blame → IsOrthoRejected sys es (class_fails blame)
  not_right_stable : (blame : Blame) → IsLeftLinear sys → IsType3 sys → IsExtendedOriented sys → IsBlameOf sys right_stable blame
      → IsOrthoRejected sys es (class_fails blame)
  ortho_pairs_fail : (reason : Rejection) → IsInOrthoClasses sys → DoNotSettle ortho sys es reason → IsOrthoRejected sys es reason

-- every run for the right side of each condition ends in a clash: it is absolutely irreducible
abbrev pub AreRightSidesIrreducible : System → Type 0
AreRightSidesIrreducible sys = (i : ℕ) (r : Rule) (k : ℕ) (c : Condition) → rule_at sys i ≡ Some r → IsAt r.conditions k c → DoAllClash sys c.right

-- condition k of rule i, both from 1, is the first whose right side is not
pub record IsFirstReducible (sys : System) (i k : ℕ) : Type 0 where
  pub rule : Rule
  pub condition : Condition
  pub place : ℕ
  pub number : k ≡ suc place
  pub is_rule : rule_at sys i ≡ Some rule
  pub is_condition : IsAt rule.conditions place condition
  pub earlier : (j : ℕ) (r : Rule) (n : ℕ) (c : Condition) → rule_at sys j ≡ Some r → IsAt r.conditions n c → (j < i) ⊎ ((j ≡ i) × (n < place))
      → DoAllClash sys c.right
  pub fails : DoAllClash sys condition.right → ⊥

-- the certificate of a system with a measure, which is judged by `Is`, is valid (after Avenhaus and Loria-Saenz 1994)
pub record IsValidQuasi (Is : Judgement → Type 0) (sys : System) (es : List PairEntry) : Type 0 where
  pub deterministic : IsDeterministic sys
  pub irreducible : AreRightSidesIrreducible sys
  pub measure : Is good
  pub pairs : DoSettle quasi sys es

-- the first reason, in the order of judging, why it is not
pub data IsQuasiRejected (Is : Judgement → Type 0) (sys : System) (es : List PairEntry) : Rejection → Type 0 where
  not_deterministic : (blame : Blame) → IsBlameOf sys deterministic blame → IsQuasiRejected Is sys es (class_fails blame)
  side_is_reducible : (i k : ℕ) → IsDeterministic sys → IsFirstReducible sys i k → IsQuasiRejected Is sys es (not_irreducible i k)
  measure_is_bad : (why : MeasureReason) → IsDeterministic sys → AreRightSidesIrreducible sys → Is (not_good why) → IsQuasiRejected Is sys es (measure_fails why)
  unraveling_is_large : (i : ℕ) → IsDeterministic sys → AreRightSidesIrreducible sys → Is (unraveling_large i) → IsQuasiRejected Is sys es (large_unraveling i)
  quasi_pairs_fail : (reason : Rejection) → IsDeterministic sys → AreRightSidesIrreducible sys → Is good → DoNotSettle quasi sys es reason
      → IsQuasiRejected Is sys es reason
