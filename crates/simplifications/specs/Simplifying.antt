-- What a step makes of a system, or why it is refused; and what a list of steps makes of it, each speaking of the system
-- that those before it leave, or the first step that fails.
use Rattle.std.specs.Prelude.{ℕ, zero, suc, ◌≡◌, ◌⊎◌, List, [], ◌∷◌, ◌++◌, take, drop, slice_get, Some, None}
use Rattle.rewriting.specs.Prelude.{Fits, Condition, Rule, System, rule_at, Each, terms_of_rule}
use Rattle.certificates.specs.Prelude.{InfeasibilityEvidence, hypothesis_at, Simplification, dropped, inlined, EvidenceReason, SimplificationReason, missing_rule, missing_condition}
use Rattle.certificates.specs.Prelude.{not_inline, inlined_large, bad_evidence}
use Rattle.judged_evidence.specs.Evidence.{IsInfeasibilityJudged}
use Rattle.simplifications.specs.Inlining.{Names, inlined_rule, numbered}

-- the system with other rules in place of the one behind the first n; its symbols, and how many of them are the file's, stay
abbrev pub with_in_place : System → ℕ → List Rule → System
with_in_place sys n qs = record { arities = sys.arities; rules = take n sys.rules ++ (qs ++ drop (suc n) sys.rules); own = sys.own }

-- the rule behind the first n is left out
pub record IsDropped (sys : System) (n : ℕ) (e : InfeasibilityEvidence) (next : System) : Type 0 where
  pub rule : Rule
  pub is_rule : slice_get sys.rules n ≡ Some rule
  pub never_met : IsInfeasibilityJudged sys rule.conditions e None
  pub result : next ≡ with_in_place sys n []

-- the condition behind the first k of the rule behind the first n is inlined, and the result fits
pub record IsInlined (sys : System) (n k : ℕ) (next : System) : Type 0 where
  pub rule : Rule
  pub is_rule : slice_get sys.rules n ≡ Some rule
  pub condition : Condition
  pub is_condition : slice_get rule.conditions k ≡ Some condition
  pub name : ℕ
  pub names : Names rule k condition name
  pub fits : Each Fits (terms_of_rule (inlined_rule rule k condition.left name))
  pub result : next ≡ with_in_place sys n (numbered (inlined_rule rule k condition.left name) ∷ [])

-- the step is good, and leads to the system
abbrev pub Simplifies : System → Simplification → System → Type 0
Simplifies sys (dropped zero e) next = ⊥
Simplifies sys (dropped (suc n) e) next = IsDropped sys n e next
Simplifies sys (inlined zero k) next = ⊥
Simplifies sys (inlined (suc n) zero) next = ⊥
Simplifies sys (inlined (suc n) (suc k)) next = IsInlined sys n k next

-- the step is not good; the first reason, in this order
pub data IsRefused (sys : System) : Simplification → SimplificationReason → Type 0 where
  no_rule_to_drop : (i : ℕ) (e : InfeasibilityEvidence) → rule_at sys i ≡ None → IsRefused sys (dropped i e) missing_rule
  evidence_fails : (i : ℕ) (e : InfeasibilityEvidence) (r : Rule) (why : EvidenceReason) → rule_at sys i ≡ Some r
      → IsInfeasibilityJudged sys r.conditions e (Some why) → IsRefused sys (dropped i e) (bad_evidence why)
  no_rule_to_change : (i k : ℕ) → rule_at sys i ≡ None → IsRefused sys (inlined i k) missing_rule
  no_condition : (i k : ℕ) (r : Rule) → rule_at sys i ≡ Some r → hypothesis_at r.conditions k ≡ None → IsRefused sys (inlined i k) missing_condition
  names_nothing : (i k : ℕ) (r : Rule) (c : Condition) → rule_at sys i ≡ Some r → slice_get r.conditions k ≡ Some c
      → ((x : ℕ) → Names r k c x → ⊥) → IsRefused sys (inlined i (suc k)) not_inline
  result_large : (i k : ℕ) (r : Rule) (c : Condition) (x : ℕ) → rule_at sys i ≡ Some r → slice_get r.conditions k ≡ Some c → Names r k c x
      → (Each Fits (terms_of_rule (inlined_rule r k c.left x)) → ⊥) → IsRefused sys (inlined i (suc k)) inlined_large

-- all steps are good, one after the other, and lead to the last system
abbrev pub AllSimplify : System → List Simplification → System → Type 0
AllSimplify sys [] last = last ≡ sys
AllSimplify sys (s ∷ ss) last = (next : System) × Simplifies sys s next × AllSimplify next ss last

-- the first step that is not good, where the first of the list has the number n
abbrev pub FailsFrom : ℕ → System → List Simplification → ℕ → SimplificationReason → Type 0
FailsFrom n sys [] number why = ⊥
FailsFrom n sys (s ∷ ss) number why =
    (IsRefused sys s why × (number ≡ n)) ⊎ ((next : System) × Simplifies sys s next × FailsFrom (suc n) next ss number why)

-- steps are numbered from 1
abbrev pub FailsAt : System → List Simplification → ℕ → SimplificationReason → Type 0
FailsAt sys ss number why = FailsFrom 1 sys ss number why
