-- When evidence for an overlap is valid, and why it is not. Conditions are numbered from 1, those of the inner rule first.
use Rattle.std.specs.Prelude.{ℕ, ◌≡◌, ◌≢◌, ◌⊎◌, List, [], Option, None, Some, take, drop}
use Rattle.rewriting.specs.Prelude.{Term, nil, cons, Condition, System}
use Rattle.unifier_run.specs.Run.{Binding, Outcome, unifier, clash, too_large, IsOutcome}
use Rattle.unifier_run.specs.Overlaps.{Overlap}
use Rattle.unifier_run.specs.Irreducible.{DoAllClash}
use Rattle.caps.specs.Caps.{any}
use Rattle.caps.specs.Evidence.{IsPairOutcome, IsPairLarge}
use Rattle.certificates.specs.Prelude.{Derivation, PairEvidence, trivial_pair, infeasible_pair, conflicting_pair, joined_pair, unfeasible_pair, Derives, IsFirstBad, hypothesis_at}
use Rattle.certificates.specs.Prelude.{EvidenceReason, not_allowed, not_root, sides_differ, conflict_number, conflict_left, conflict_unifies, conflict_large, join_left, join_right}
use Rattle.certificates.specs.Prelude.{join_differs, unfeasible_number, unfeasible_first, unfeasible_second, first_reducible, second_reducible, unfeasible_unifies, unfeasible_large}
use Rattle.valid_certificates.specs.Kinds.{Kind, ortho, quasi}
use Rattle.judged_evidence.specs.Evidence.{IsInfeasibilityJudged}

-- the evidence that certificates of a kind may give for an overlap
abbrev pub IsAllowed : Kind → PairEvidence → Type 0
IsAllowed ortho trivial_pair = Unit {0}
IsAllowed ortho (infeasible_pair e) = Unit {0}
IsAllowed ortho (conflicting_pair a b) = Unit {0}
IsAllowed ortho (joined_pair d e) = ⊥
IsAllowed ortho (unfeasible_pair k d e) = ⊥
IsAllowed quasi trivial_pair = ⊥
IsAllowed quasi (infeasible_pair e) = Unit {0}
IsAllowed quasi (conflicting_pair a b) = ⊥
IsAllowed quasi (joined_pair d e) = Unit {0}
IsAllowed quasi (unfeasible_pair k d e) = Unit {0}

-- the overlap is at the root, and both sides are equal
abbrev pub IsTrivialJudged : Overlap → Option EvidenceReason → Type 0
IsTrivialJudged o None = (o.position ≡ []) × (o.pair.left ≡ o.pair.right)
IsTrivialJudged o (Some not_root) = o.position ≢ []
IsTrivialJudged o (Some sides_differ) = (o.position ≡ []) × (o.pair.left ≢ o.pair.right)
IsTrivialJudged o (Some _) = ⊥

-- the conditions of an overlap that are those of the inner rule, and those of the outer rule
abbrev pub inner_conditions_of : Overlap → List Condition
inner_conditions_of o = take o.inner_conditions o.pair.conditions

abbrev pub outer_conditions_of : Overlap → List Condition
outer_conditions_of o = drop o.inner_conditions o.pair.conditions

-- the numbers are those of a condition of the inner and of one of the outer rule
pub record AreConditionsOf (o : Overlap) (a b : ℕ) (c d : Condition) : Type 0 where
  pub inner : hypothesis_at (inner_conditions_of o) a ≡ Some c
  pub outer : hypothesis_at (outer_conditions_of o) b ≡ Some d

-- a condition of the inner and one of the outer rule have one left side, and the right sides' caps clash
abbrev pub IsConflictJudged : System → Overlap → ℕ → ℕ → Option EvidenceReason → Type 0
IsConflictJudged sys o a b None =
    (c d : Condition) × AreConditionsOf o a b c d × (c.left ≡ d.left) × IsPairOutcome sys any c.right d.right clash
IsConflictJudged sys o a b (Some conflict_number) = (hypothesis_at (inner_conditions_of o) a ≡ None) ⊎ (hypothesis_at (outer_conditions_of o) b ≡ None)
IsConflictJudged sys o a b (Some conflict_left) = (c d : Condition) × AreConditionsOf o a b c d × (c.left ≢ d.left)
IsConflictJudged sys o a b (Some conflict_unifies) =
    (c d : Condition) × AreConditionsOf o a b c d × (c.left ≡ d.left) × ((m : List Binding) × IsPairOutcome sys any c.right d.right (unifier m))
IsConflictJudged sys o a b (Some conflict_large) =
    (c d : Condition) × AreConditionsOf o a b c d × (c.left ≡ d.left) × IsPairLarge sys any c.right d.right
IsConflictJudged sys o a b (Some _) = ⊥

-- under the overlap's conditions as hypotheses both sides derive one term
abbrev pub IsJoinJudged : System → Overlap → Derivation → Derivation → Option EvidenceReason → Type 0
IsJoinJudged sys o d e None = (w : Term) × Derives sys o.pair.conditions o.pair.left d w × Derives sys o.pair.conditions o.pair.right e w
IsJoinJudged sys o d e (Some (join_left bad)) = IsFirstBad sys o.pair.conditions o.pair.left d bad
IsJoinJudged sys o d e (Some (join_right bad)) =
    (u : Term) × Derives sys o.pair.conditions o.pair.left d u × IsFirstBad sys o.pair.conditions o.pair.right e bad
IsJoinJudged sys o d e (Some join_differs) =
    (u v : Term) × Derives sys o.pair.conditions o.pair.left d u × Derives sys o.pair.conditions o.pair.right e v × (u ≢ v)
IsJoinJudged sys o d e (Some _) = ⊥

-- the left side of condition k derives u and v under the same hypotheses
pub record DerivesTwo (sys : System) (o : Overlap) (k : ℕ) (d e : Derivation) (u v : Term) : Type 0 where
  pub condition : Condition
  pub is_condition : hypothesis_at o.pair.conditions k ≡ Some condition
  pub first : Derives sys o.pair.conditions condition.left d u
  pub second : Derives sys o.pair.conditions condition.left e v

-- both are absolutely irreducible, and they have this outcome, their variables being the same
abbrev pub IsOutcomeOfTwo : System → Overlap → ℕ → Derivation → Derivation → Outcome → Type 0
IsOutcomeOfTwo sys o k d e outcome =
    (u v : Term) × DerivesTwo sys o k d e u v × DoAllClash sys u × DoAllClash sys v × IsOutcome (cons u nil) (cons v nil) outcome

-- the left side of a condition derives two absolutely irreducible terms that do not unify
abbrev pub IsUnfeasibleJudged : System → Overlap → ℕ → Derivation → Derivation → Option EvidenceReason → Type 0
IsUnfeasibleJudged sys o k d e None = IsOutcomeOfTwo sys o k d e clash
IsUnfeasibleJudged sys o k d e (Some unfeasible_number) = hypothesis_at o.pair.conditions k ≡ None
IsUnfeasibleJudged sys o k d e (Some (unfeasible_first bad)) =
    (c : Condition) × (hypothesis_at o.pair.conditions k ≡ Some c) × IsFirstBad sys o.pair.conditions c.left d bad
IsUnfeasibleJudged sys o k d e (Some (unfeasible_second bad)) =
    (c : Condition) × (hypothesis_at o.pair.conditions k ≡ Some c)
    × ((u : Term) × Derives sys o.pair.conditions c.left d u × IsFirstBad sys o.pair.conditions c.left e bad)
IsUnfeasibleJudged sys o k d e (Some first_reducible) = (u v : Term) × DerivesTwo sys o k d e u v × (DoAllClash sys u → ⊥)
IsUnfeasibleJudged sys o k d e (Some second_reducible) = (u v : Term) × DerivesTwo sys o k d e u v × DoAllClash sys u × (DoAllClash sys v → ⊥)
IsUnfeasibleJudged sys o k d e (Some unfeasible_unifies) = (m : List Binding) × IsOutcomeOfTwo sys o k d e (unifier m)
IsUnfeasibleJudged sys o k d e (Some unfeasible_large) = IsOutcomeOfTwo sys o k d e too_large
IsUnfeasibleJudged sys o k d e (Some _) = ⊥

-- the evidence is judged, whatever the kind of the certificate: with no reason, it is valid; else the first reason why it is not
abbrev pub IsEvidenceJudged : System → Overlap → PairEvidence → Option EvidenceReason → Type 0
IsEvidenceJudged sys o trivial_pair r = IsTrivialJudged o r
IsEvidenceJudged sys o (infeasible_pair e) r = IsInfeasibilityJudged sys o.pair.conditions e r
IsEvidenceJudged sys o (conflicting_pair a b) r = IsConflictJudged sys o a b r
IsEvidenceJudged sys o (joined_pair d e) r = IsJoinJudged sys o d e r
IsEvidenceJudged sys o (unfeasible_pair k d e) r = IsUnfeasibleJudged sys o k d e r

-- in a certificate of a kind; evidence that it may not give is not looked at
abbrev pub IsPairJudged : Kind → System → Overlap → PairEvidence → Option EvidenceReason → Type 0
IsPairJudged kind sys o e r =
    (IsAllowed kind e × IsEvidenceJudged sys o e r) ⊎ ((IsAllowed kind e → ⊥) × (r ≡ Some not_allowed))
