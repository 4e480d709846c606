-- Evidence for an overlap is valid, or there is a first reason why it is not.
use Rattle.std.proofs.Common.{◌≡◌, ◌⊎◌, inl, inr, ℕ, [], ◌∷◌, Option, Some, None, refl, subst}
use Rattle.rewriting.proofs.Common.{Term, cons, nil, Position, Condition, System}
use Rattle.rewriting.proofs.Equality.{same}
use Rattle.unifier_run.specs.Run.{Outcome, unifier, clash, too_large, IsOutcome}
use Rattle.unifier_run.specs.Overlaps.{Overlap}
use Rattle.unifier_run.specs.Irreducible.{DoAllClash}
use Rattle.unifier_run.proofs.Total.{outcome_of, all_clash_decided}
use Rattle.caps.specs.Caps.{Cap, any, IsCapLarge}
use Rattle.caps.specs.Evidence.{IsPairOutcome}
use Rattle.certificates.specs.Prelude.{Derivation, PairEvidence, trivial_pair, infeasible_pair, conflicting_pair, joined_pair, unfeasible_pair, Derives, IsFirstBad, hypothesis_at}
use Rattle.certificates.specs.Prelude.{EvidenceReason, not_allowed, not_root, sides_differ, conflict_number, conflict_left, conflict_unifies, conflict_large, join_left, join_right}
use Rattle.certificates.specs.Prelude.{join_differs, unfeasible_number, unfeasible_first, unfeasible_second, first_reducible, second_reducible, unfeasible_unifies, unfeasible_large}
use Rattle.certificates.specs.Prelude.{BadStep}
use Rattle.certificates.proofs.DerivationTotal.{derivation_total}
use Rattle.valid_certificates.specs.Kinds.{Kind, ortho, quasi}
use Rattle.judged_evidence.proofs.Judged.{infeasibility_total}
use Rattle.valid_certificates.specs.PairEvidence.{IsAllowed, IsTrivialJudged, inner_conditions_of, outer_conditions_of, AreConditionsOf, IsConflictJudged, IsJoinJudged, DerivesTwo}
use Rattle.valid_certificates.specs.PairEvidence.{IsUnfeasibleJudged, IsEvidenceJudged, IsPairJudged}

-- there is a judgement: no reason, or one
abbrev pub HasJudgement : (Option EvidenceReason → Type 0) → Type 0
HasJudgement Judged = (o : Option EvidenceReason) × Judged o

at_root : (p : Position) → Dec (p ≡ [])
at_root [] = yes refl
at_root (k ∷ p) = no (λ e. cc)

trivial_total : (o : Overlap) → HasJudgement (IsTrivialJudged o)
trivial_total o = go (at_root o.position) (same o.pair.left o.pair.right)
  where
    go : Dec (o.position ≡ []) → Dec (o.pair.left ≡ o.pair.right) → HasJudgement (IsTrivialJudged o)
    go (no n) d = (Some not_root, n)
    go (yes e) (no n) = (Some sides_differ, (e, n))
    go (yes e) (yes q) = (None, (e, q))

module _ (sys : System) (o : Overlap) (left right : Derivation) where
  abbrev Joined : Type 0
  Joined = HasJudgement (IsJoinJudged sys o left right)

  abbrev Derived : Term → Derivation → Type 0
  Derived t d = ((u : Term) × Derives sys o.pair.conditions t d u) ⊎ ((bad : BadStep) × IsFirstBad sys o.pair.conditions t d bad)

  ends : (u v : Term) → Derives sys o.pair.conditions o.pair.left left u → Derives sys o.pair.conditions o.pair.right right v → Dec (u ≡ v) → Joined
  ends u v h k (no n) = (Some join_differs, (u, v, h, k, n))
  ends u v h k (yes e) = (None, (v, subst (Derives sys o.pair.conditions o.pair.left left) e h, k))

  right_side : (u : Term) → Derives sys o.pair.conditions o.pair.left left u → Derived o.pair.right right → Joined
  right_side u h (inr (bad, f)) = (Some (join_right bad), (u, h, f))
  right_side u h (inl (v, k)) = ends u v h k (same u v)

  left_side : Derived o.pair.left left → Joined
  left_side (inr (bad, f)) = (Some (join_left bad), f)
  left_side (inl (u, h)) = right_side u h (derivation_total sys o.pair.conditions o.pair.right right)

  join_total : Joined
  join_total = left_side (derivation_total sys o.pair.conditions o.pair.left left)

module _ (sys : System) (o : Overlap) (k : ℕ) (d e : Derivation) where
  abbrev Unfeasible : Type 0
  Unfeasible = HasJudgement (IsUnfeasibleJudged sys o k d e)

  two_run : (u v : Term) → DerivesTwo sys o k d e u v → DoAllClash sys u → DoAllClash sys v → (r : Outcome) × IsOutcome (cons u nil) (cons v nil) r → Unfeasible
  two_run u v at a b (clash, h) = (None, (u, v, at, a, b, h))
  two_run u v at a b (unifier m, h) = (Some unfeasible_unifies, (m, (u, v, at, a, b, h)))
  two_run u v at a b (too_large, h) = (Some unfeasible_large, (u, v, at, a, b, h))

  two_ends : (u v : Term) → DerivesTwo sys o k d e u v → DoAllClash sys u ⊎ (DoAllClash sys u → ⊥) → DoAllClash sys v ⊎ (DoAllClash sys v → ⊥) → Unfeasible
  two_ends u v at (inr n) b = (Some first_reducible, (u, v, at, n))
  two_ends u v at (inl a) (inr n) = (Some second_reducible, (u, v, at, a, n))
  two_ends u v at (inl a) (inl b) = two_run u v at a b (outcome_of u v)

  module _ (c : Condition) (is : hypothesis_at o.pair.conditions k ≡ Some c) where
    second_end : (u : Term) → Derives sys o.pair.conditions c.left d u
        → ((v : Term) × Derives sys o.pair.conditions c.left e v) ⊎ ((bad : BadStep) × IsFirstBad sys o.pair.conditions c.left e bad) → Unfeasible
    second_end u h (inr (bad, f)) = (Some (unfeasible_second bad), (c, is, (u, h, f)))
    second_end u h (inl (v, g)) = two_ends u v (record { condition = c; is_condition = is; first = h; second = g }) (all_clash_decided sys u) (all_clash_decided sys v)

    first_end : ((u : Term) × Derives sys o.pair.conditions c.left d u) ⊎ ((bad : BadStep) × IsFirstBad sys o.pair.conditions c.left d bad) → Unfeasible
    first_end (inr (bad, f)) = (Some (unfeasible_first bad), (c, is, f))
    first_end (inl (u, h)) = second_end u h (derivation_total sys o.pair.conditions c.left e)

  at_condition : (x : Option Condition) → hypothesis_at o.pair.conditions k ≡ x → Unfeasible
  at_condition None is = (Some unfeasible_number, is)
  at_condition (Some c) is = first_end c is (derivation_total sys o.pair.conditions c.left d)

  unfeasible_total : Unfeasible
  unfeasible_total = at_condition (hypothesis_at o.pair.conditions k) refl

allowed_decided : (kind : Kind) (e : PairEvidence) → Dec (IsAllowed kind e)
allowed_decided ortho trivial_pair = yes tt
allowed_decided ortho (infeasible_pair e) = yes tt
allowed_decided ortho (conflicting_pair a b) = yes tt
allowed_decided ortho (joined_pair d e) = no (λ h. h)
allowed_decided ortho (unfeasible_pair k d e) = no (λ h. h)
allowed_decided quasi trivial_pair = no (λ h. h)
allowed_decided quasi (infeasible_pair e) = yes tt
allowed_decided quasi (conflicting_pair a b) = no (λ h. h)
allowed_decided quasi (joined_pair d e) = yes tt
allowed_decided quasi (unfeasible_pair k d e) = yes tt

-- where two terms are judged by caps
module _ (sys : System)
    (two_caps : (leaf : ℕ → Cap) (u v : Term) → ((o : Outcome) × IsPairOutcome sys leaf u v o) ⊎ (IsCapLarge sys leaf u ⊎ IsCapLarge sys leaf v)) where
  module _ (o : Overlap) (a b : ℕ) where
    abbrev Conflict : Type 0
    Conflict = HasJudgement (IsConflictJudged sys o a b)

    with_caps : (c d : Condition) → AreConditionsOf o a b c d → c.left ≡ d.left
        → ((r : Outcome) × IsPairOutcome sys any c.right d.right r) ⊎ (IsCapLarge sys any c.right ⊎ IsCapLarge sys any d.right) → Conflict
    with_caps c d at q (inl (clash, h)) = (None, (c, d, at, q, h))
    with_caps c d at q (inl (unifier m, h)) = (Some conflict_unifies, (c, d, at, q, (m, h)))
    with_caps c d at q (inl (too_large, h)) = (Some conflict_large, (c, d, at, q, inr h))
    with_caps c d at q (inr large) = (Some conflict_large, (c, d, at, q, inl large))

    with_sides : (c d : Condition) → AreConditionsOf o a b c d → Dec (c.left ≡ d.left) → Conflict
    with_sides c d at (no n) = (Some conflict_left, (c, d, at, n))
    with_sides c d at (yes q) = with_caps c d at q (two_caps any c.right d.right)

    with_numbers : (x y : Option Condition) → hypothesis_at (inner_conditions_of o) a ≡ x → hypothesis_at (outer_conditions_of o) b ≡ y → Conflict
    with_numbers None y e f = (Some conflict_number, inl e)
    with_numbers (Some c) None e f = (Some conflict_number, inr f)
    with_numbers (Some c) (Some d) e f = with_sides c d (record { inner = e; outer = f }) (same c.left d.left)

    conflict_total : Conflict
    conflict_total = with_numbers (hypothesis_at (inner_conditions_of o) a) (hypothesis_at (outer_conditions_of o) b) refl refl

  evidence_total : (o : Overlap) (e : PairEvidence) → HasJudgement (IsEvidenceJudged sys o e)
  evidence_total o trivial_pair = trivial_total o
  evidence_total o (infeasible_pair e) = infeasibility_total sys o.pair.conditions e
  evidence_total o (conflicting_pair a b) = conflict_total o a b
  evidence_total o (joined_pair d e) = join_total sys o d e
  evidence_total o (unfeasible_pair k d e) = unfeasible_total sys o k d e

  pub pair_total : (kind : Kind) (o : Overlap) (e : PairEvidence) → HasJudgement (IsPairJudged kind sys o e)
  pair_total kind o e = go (allowed_decided kind e) (evidence_total o e)
    where
      go : Dec (IsAllowed kind e) → HasJudgement (IsEvidenceJudged sys o e) → HasJudgement (IsPairJudged kind sys o e)
      go (no n) j = (Some not_allowed, inr (n, refl))
      go (yes y) (r, h) = (r, inl (y, h))
