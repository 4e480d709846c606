-- The evidence for an overlap has one judgement.
use Rattle.std.proofs.Common.{◌≡◌, ◌≢◌, ◌⊎◌, inl, inr, ℕ, List, [], Option, Some, None, refl, sym, ap₂, ◌∙◌}
use Rattle.rewriting.specs.Prelude.{Term, nil, cons, Condition, System}
use Rattle.unifier_run.specs.Run.{Outcome, unifier, clash, too_large, IsOutcome}
use Rattle.unifier_run.specs.Overlaps.{Overlap}
use Rattle.unifier_run.specs.Irreducible.{DoAllClash}
use Rattle.unifier_run.proofs.Unique.{runs_same}
use Rattle.caps.specs.Caps.{any, IsCapLarge}
use Rattle.caps.specs.Evidence.{IsPairOutcome, IsPairLarge}
use Rattle.caps.proofs.Unique.{one_outcome}
use Rattle.certificates.specs.Prelude.{Derivation, PairEvidence, trivial_pair, infeasible_pair, conflicting_pair, joined_pair, unfeasible_pair, Derives, IsFirstBad, hypothesis_at}
use Rattle.certificates.specs.Prelude.{EvidenceReason, not_allowed, not_root, sides_differ, conflict_number, conflict_left, conflict_unifies, conflict_large, BadStep, StepReason, join_left}
use Rattle.certificates.specs.Prelude.{join_right, join_differs, unfeasible_number, unfeasible_first, unfeasible_second, first_reducible, second_reducible, unfeasible_unifies}
use Rattle.certificates.specs.Prelude.{unfeasible_large}
use Rattle.certificates.proofs.Unique.{derives_unique}
use Rattle.certificates.proofs.Outcomes.{never_both, fails_unique}
use Rattle.valid_certificates.specs.Kinds.{Kind}
use Rattle.valid_certificates.specs.PairEvidence.{IsAllowed, IsTrivialJudged, inner_conditions_of, outer_conditions_of, AreConditionsOf, IsConflictJudged, IsJoinJudged, DerivesTwo}
use Rattle.valid_certificates.specs.PairEvidence.{IsUnfeasibleJudged, IsEvidenceJudged, IsPairJudged}
use Rattle.rewriting.proofs.Once.{same_some, some_or_none, IsOnce, or_once, test_once, with_once, fact_once, facts_once, once_within}
use Rattle.judged_evidence.proofs.Judged.{evidence_once}

-- a judgement: no reason, or one
abbrev pub Verdict : Type 0
Verdict = Option EvidenceReason

-- evidence by equal sides
abbrev TrivialCases : Overlap → Verdict → Type 0
TrivialCases o r =
    ((o.position ≢ []) × (r ≡ Some not_root))
    ⊎ ((o.position ≡ []) × (((o.pair.left ≡ o.pair.right) × (r ≡ None)) ⊎ ((o.pair.left ≢ o.pair.right) × (r ≡ Some sides_differ))))

trivial_cases : (o : Overlap) (r : Verdict) → IsTrivialJudged o r → TrivialCases o r
trivial_cases o None h = inr (h.0, inl (h.1, refl))
trivial_cases o (Some not_root) h = inl (h, refl)
trivial_cases o (Some sides_differ) h = inr (h.0, inr (h.1, refl))
trivial_cases o (Some _) h = absurd h

trivial_once : (o : Overlap) → IsOnce Verdict (IsTrivialJudged o)
trivial_once o =
    once_within Verdict (IsTrivialJudged o) (TrivialCases o) (trivial_cases o)
    (test_once Verdict (o.position ≡ []) (λ r. (o.position ≢ []) × (r ≡ Some not_root))
    (λ r. ((o.pair.left ≡ o.pair.right) × (r ≡ None)) ⊎ ((o.pair.left ≢ o.pair.right) × (r ≡ Some sides_differ))) (λ r h k. h.0 k)
    (fact_once Verdict (o.position ≢ []) (Some not_root)) (facts_once Verdict (o.pair.left ≡ o.pair.right) (o.pair.left ≢ o.pair.right) None (Some sides_differ) (λ h k. k h)))

-- what an outcome says of evidence that asks for a clash
abbrev told : EvidenceReason → EvidenceReason → Outcome → Verdict
told unifies large (unifier m) = Some unifies
told unifies large clash = None
told unifies large too_large = Some large

-- the right sides of two conditions with one left side
abbrev CapCases : System → Condition → Condition → Verdict → Type 0
CapCases sys c d r =
    ((IsCapLarge sys any c.right ⊎ IsCapLarge sys any d.right) × (r ≡ Some conflict_large))
    ⊎ ((o : Outcome) × IsPairOutcome sys any c.right d.right o × (r ≡ told conflict_unifies conflict_large o))

abbrev LeftCases : System → Condition × Condition → Verdict → Type 0
LeftCases sys w r = ((w.0.left ≢ w.1.left) × (r ≡ Some conflict_left)) ⊎ ((w.0.left ≡ w.1.left) × CapCases sys w.0 w.1 r)

module _ (sys : System) (o : Overlap) (a b : ℕ) where
  abbrev NoNumber : Type 0
  NoNumber = (hypothesis_at (inner_conditions_of o) a ≡ None) ⊎ (hypothesis_at (outer_conditions_of o) b ≡ None)

  abbrev ArePair : Condition × Condition → Type 0
  ArePair w = AreConditionsOf o a b w.0 w.1

  abbrev PairCases : Verdict → Type 0
  PairCases r = (w : Condition × Condition) × ArePair w × LeftCases sys w r

  abbrev ConflictCases : Verdict → Type 0
  ConflictCases r = (NoNumber × (r ≡ Some conflict_number)) ⊎ PairCases r

  large_case : (c d : Condition) → IsPairLarge sys any c.right d.right → CapCases sys c d (Some conflict_large)
  large_case c d (inl h) = inl (h, refl)
  large_case c d (inr h) = inr (too_large, h, refl)

  conflict_cases : (r : Verdict) → IsConflictJudged sys o a b r → ConflictCases r
  conflict_cases None (c, d, are, e, h) = inr ((c, d), are, inr (e, inr (clash, h, refl)))
  conflict_cases (Some conflict_number) h = inl (h, refl)
  conflict_cases (Some conflict_left) (c, d, are, n) = inr ((c, d), are, inl (n, refl))
  conflict_cases (Some conflict_unifies) (c, d, are, e, (m, h)) = inr ((c, d), are, inr (e, inr (unifier m, h, refl)))
  conflict_cases (Some conflict_large) (c, d, are, e, h) = inr ((c, d), are, inr (e, large_case c d h))
  conflict_cases (Some _) h = absurd h

  pair_once : IsOnce (Condition × Condition) ArePair
  pair_once (c, d) (e, f) h k =
      let first = same_some (hypothesis_at (inner_conditions_of o) a) c e h.inner k.inner in
      let second = same_some (hypothesis_at (outer_conditions_of o) b) d f h.outer k.outer in
      let both : Condition → Condition → Condition × Condition = λ x y. (x, y) in
      ap₂ both first second

  number_or_pair : (r s : Verdict) → NoNumber × (r ≡ Some conflict_number) → PairCases s → ⊥
  number_or_pair r s (inl e, _) ((c, d), are, _) = some_or_none (hypothesis_at (inner_conditions_of o) a) c are.inner e
  number_or_pair r s (inr e, _) ((c, d), are, _) = some_or_none (hypothesis_at (outer_conditions_of o) b) d are.outer e

  either_large : (c d : Condition) (r s : Verdict) → (IsCapLarge sys any c.right ⊎ IsCapLarge sys any d.right) × (r ≡ Some conflict_large)
      → (p : Outcome) × IsPairOutcome sys any c.right d.right p × (s ≡ told conflict_unifies conflict_large p) → ⊥
  either_large c d r s (inl h, _) (p, k, _) = ((one_outcome sys any c.right d.right).never_both p k).0 h
  either_large c d r s (inr h, _) (p, k, _) = ((one_outcome sys any c.right d.right).never_both p k).1 h

  caps_once : (c d : Condition) → IsOnce Verdict (CapCases sys c d)
  caps_once c d =
      or_once Verdict (λ r. (IsCapLarge sys any c.right ⊎ IsCapLarge sys any d.right) × (r ≡ Some conflict_large))
      (λ r. (p : Outcome) × IsPairOutcome sys any c.right d.right p × (r ≡ told conflict_unifies conflict_large p)) (either_large c d)
      (fact_once Verdict (IsCapLarge sys any c.right ⊎ IsCapLarge sys any d.right) (Some conflict_large))
      (with_once Verdict Outcome (IsPairOutcome sys any c.right d.right) (λ p r. r ≡ told conflict_unifies conflict_large p) (one_outcome sys any c.right d.right).one (λ p r s h k. h ∙ sym k))

  left_once : (w : Condition × Condition) → IsOnce Verdict (LeftCases sys w)
  left_once (c, d) =
      test_once Verdict (c.left ≡ d.left) (λ r. (c.left ≢ d.left) × (r ≡ Some conflict_left)) (CapCases sys c d) (λ r h k. h.0 k)
      (fact_once Verdict (c.left ≢ d.left) (Some conflict_left)) (caps_once c d)

  conflict_once : IsOnce Verdict (IsConflictJudged sys o a b)
  conflict_once =
      once_within Verdict (IsConflictJudged sys o a b) ConflictCases conflict_cases
      (or_once Verdict (λ r. NoNumber × (r ≡ Some conflict_number)) PairCases number_or_pair (fact_once Verdict NoNumber (Some conflict_number))
      (with_once Verdict (Condition × Condition) ArePair (LeftCases sys) pair_once left_once))

-- a derivation has a first bad step, or it leads to a term
module _ (sys : System) (hyps : List Condition) (t : Term) (d : Derivation) where
  same_bad : IsOnce BadStep (IsFirstBad sys hyps t d)
  same_bad a b h k =
      let same = fails_unique sys hyps 1 t d a.path b.path a.reason b.reason h k in
      let made : List ℕ → StepReason → BadStep = λ p r. record { path = p; reason = r } in
      ap₂ made same.path same.reason

  abbrev IsBad : (BadStep → EvidenceReason) → Verdict → Type 0
  IsBad why r = (bad : BadStep) × IsFirstBad sys hyps t d bad × (r ≡ Some (why bad))

  abbrev EndCases : (BadStep → EvidenceReason) → (Term → Verdict → Type 0) → Verdict → Type 0
  EndCases why Rest r = IsBad why r ⊎ ((u : Term) × Derives sys hyps t d u × Rest u r)

  bad_or_end : (why : BadStep → EvidenceReason) (Rest : Term → Verdict → Type 0) (r s : Verdict) → IsBad why r → (u : Term) × Derives sys hyps t d u × Rest u s → ⊥
  bad_or_end why Rest r s (bad, f, _) (u, h, _) = never_both sys hyps 1 t d u bad.path bad.reason h f

  end_once : (why : BadStep → EvidenceReason) (Rest : Term → Verdict → Type 0) → ((u : Term) → IsOnce Verdict (Rest u)) → IsOnce Verdict (EndCases why Rest)
  end_once why Rest once =
      or_once Verdict (IsBad why) (λ r. (u : Term) × Derives sys hyps t d u × Rest u r) (bad_or_end why Rest)
      (with_once Verdict BadStep (IsFirstBad sys hyps t d) (λ bad r. r ≡ Some (why bad)) same_bad (λ bad r s h k. h ∙ sym k))
      (with_once Verdict Term (Derives sys hyps t d) Rest (derives_unique sys hyps t d) once)

-- evidence by derivations to one term
abbrev SameCases : Term → Term → Verdict → Type 0
SameCases u v r = ((u ≡ v) × (r ≡ None)) ⊎ ((u ≢ v) × (r ≡ Some join_differs))

module _ (sys : System) (o : Overlap) (d e : Derivation) where
  abbrev SecondJoins : Term → Verdict → Type 0
  SecondJoins u = EndCases sys o.pair.conditions o.pair.right e join_right (SameCases u)

  abbrev JoinCases : Verdict → Type 0
  JoinCases = EndCases sys o.pair.conditions o.pair.left d join_left SecondJoins

  join_cases : (r : Verdict) → IsJoinJudged sys o d e r → JoinCases r
  join_cases None (w, h, k) = inr (w, h, inr (w, k, inl (refl, refl)))
  join_cases (Some (join_left bad)) h = inl (bad, h, refl)
  join_cases (Some (join_right bad)) (u, h, k) = inr (u, h, inl (bad, k, refl))
  join_cases (Some join_differs) (u, v, h, k, n) = inr (u, h, inr (v, k, inr (n, refl)))
  join_cases (Some _) h = absurd h

  join_once : IsOnce Verdict (IsJoinJudged sys o d e)
  join_once =
      once_within Verdict (IsJoinJudged sys o d e) JoinCases join_cases
      (end_once sys o.pair.conditions o.pair.left d join_left SecondJoins
      (λ u. end_once sys o.pair.conditions o.pair.right e join_right (SameCases u) (λ v. facts_once Verdict (u ≡ v) (u ≢ v) None (Some join_differs) (λ h k. k h))))

-- evidence by derivations to irreducible terms
module _ (sys : System) (o : Overlap) (k : ℕ) (d e : Derivation) where
  abbrev RunCases : Term → Term → Verdict → Type 0
  RunCases u v r = (p : Outcome) × IsOutcome (cons u nil) (cons v nil) p × (r ≡ told unfeasible_unifies unfeasible_large p)

  abbrev SecondReducible : Term → Term → Verdict → Type 0
  SecondReducible u v r = ((DoAllClash sys v → ⊥) × (r ≡ Some second_reducible)) ⊎ (DoAllClash sys v × RunCases u v r)

  abbrev FirstReducible : Term → Term → Verdict → Type 0
  FirstReducible u v r = ((DoAllClash sys u → ⊥) × (r ≡ Some first_reducible)) ⊎ (DoAllClash sys u × SecondReducible u v r)

  abbrev SecondEnds : Condition → Term → Verdict → Type 0
  SecondEnds c u = EndCases sys o.pair.conditions c.left e unfeasible_second (FirstReducible u)

  abbrev FirstEnds : Condition → Verdict → Type 0
  FirstEnds c = EndCases sys o.pair.conditions c.left d unfeasible_first (SecondEnds c)

  abbrev IsCondition : Condition → Type 0
  IsCondition c = hypothesis_at o.pair.conditions k ≡ Some c

  abbrev NoCondition : Type 0
  NoCondition = hypothesis_at o.pair.conditions k ≡ None

  abbrev ConditionCases : Verdict → Type 0
  ConditionCases r = (c : Condition) × IsCondition c × FirstEnds c r

  abbrev UnfeasibleCases : Verdict → Type 0
  UnfeasibleCases r = (NoCondition × (r ≡ Some unfeasible_number)) ⊎ ConditionCases r

  both_end : (r : Verdict) (u v : Term) → DerivesTwo sys o k d e u v → FirstReducible u v r → UnfeasibleCases r
  both_end r u v two h = inr (two.condition, two.is_condition, inr (u, two.first, inr (v, two.second, h)))

  unfeasible_cases : (r : Verdict) → IsUnfeasibleJudged sys o k d e r → UnfeasibleCases r
  unfeasible_cases None (u, v, two, a, b, h) = both_end None u v two (inr (a, inr (b, (clash, h, refl))))
  unfeasible_cases (Some unfeasible_number) h = inl (h, refl)
  unfeasible_cases (Some (unfeasible_first bad)) (c, is, h) = inr (c, is, inl (bad, h, refl))
  unfeasible_cases (Some (unfeasible_second bad)) (c, is, (u, h, f)) = inr (c, is, inr (u, h, inl (bad, f, refl)))
  unfeasible_cases (Some first_reducible) (u, v, two, n) = both_end (Some first_reducible) u v two (inl (n, refl))
  unfeasible_cases (Some second_reducible) (u, v, two, a, n) = both_end (Some second_reducible) u v two (inr (a, inl (n, refl)))
  unfeasible_cases (Some unfeasible_unifies) (m, (u, v, two, a, b, h)) = both_end (Some unfeasible_unifies) u v two (inr (a, inr (b, (unifier m, h, refl))))
  unfeasible_cases (Some unfeasible_large) (u, v, two, a, b, h) = both_end (Some unfeasible_large) u v two (inr (a, inr (b, (too_large, h, refl))))
  unfeasible_cases (Some _) h = absurd h

  run_once : (u v : Term) → IsOnce Verdict (RunCases u v)
  run_once u v =
      with_once Verdict Outcome (IsOutcome (cons u nil) (cons v nil)) (λ p r. r ≡ told unfeasible_unifies unfeasible_large p) (λ p q a b. runs_same a b) (λ p r s a b. a ∙ sym b)

  reducible_once : (u v : Term) → IsOnce Verdict (FirstReducible u v)
  reducible_once u v =
      test_once Verdict (DoAllClash sys u) (λ r. (DoAllClash sys u → ⊥) × (r ≡ Some first_reducible)) (SecondReducible u v) (λ r h a. h.0 a)
      (fact_once Verdict (DoAllClash sys u → ⊥) (Some first_reducible))
      (test_once Verdict (DoAllClash sys v) (λ r. (DoAllClash sys v → ⊥) × (r ≡ Some second_reducible)) (RunCases u v) (λ r h a. h.0 a)
      (fact_once Verdict (DoAllClash sys v → ⊥) (Some second_reducible)) (run_once u v))

  ends_once : (c : Condition) → IsOnce Verdict (FirstEnds c)
  ends_once c =
      end_once sys o.pair.conditions c.left d unfeasible_first (SecondEnds c)
      (λ u. end_once sys o.pair.conditions c.left e unfeasible_second (FirstReducible u) (reducible_once u))

  none_or_condition : (r s : Verdict) → NoCondition × (r ≡ Some unfeasible_number) → ConditionCases s → ⊥
  none_or_condition r s (none, _) (c, is, _) = some_or_none (hypothesis_at o.pair.conditions k) c is none

  unfeasible_once : IsOnce Verdict (IsUnfeasibleJudged sys o k d e)
  unfeasible_once =
      once_within Verdict (IsUnfeasibleJudged sys o k d e) UnfeasibleCases unfeasible_cases
      (or_once Verdict (λ r. NoCondition × (r ≡ Some unfeasible_number)) ConditionCases none_or_condition (fact_once Verdict NoCondition (Some unfeasible_number))
      (with_once Verdict Condition IsCondition FirstEnds (λ c b h x. same_some (hypothesis_at o.pair.conditions k) c b h x) ends_once))

-- whatever the evidence
judged_once : (sys : System) (o : Overlap) (e : PairEvidence) → IsOnce Verdict (IsEvidenceJudged sys o e)
judged_once sys o trivial_pair = trivial_once o
judged_once sys o (infeasible_pair e) = evidence_once sys o.pair.conditions e
judged_once sys o (conflicting_pair a b) = conflict_once sys o a b
judged_once sys o (joined_pair d e) = join_once sys o d e
judged_once sys o (unfeasible_pair k d e) = unfeasible_once sys o k d e

pub pair_judged_once : (kind : Kind) (sys : System) (o : Overlap) (e : PairEvidence) → IsOnce Verdict (IsPairJudged kind sys o e)
pair_judged_once kind sys o e =
    or_once Verdict (λ r. IsAllowed kind e × IsEvidenceJudged sys o e r) (λ r. (IsAllowed kind e → ⊥) × (r ≡ Some not_allowed)) (λ r s h k. k.0 h.0)
    (λ r s h k. judged_once sys o e r s h.1 k.1) (fact_once Verdict (IsAllowed kind e → ⊥) (Some not_allowed))

-- valid evidence has no reason, and other evidence has one
pub never_judged : (kind : Kind) (sys : System) (o : Overlap) (e : PairEvidence) (why : EvidenceReason) → IsPairJudged kind sys o e None → IsPairJudged kind sys o e (Some why) → ⊥
never_judged kind sys o e why a b = (let same = pair_judged_once kind sys o e None (Some why) a b in cc)

pub one_judged : (kind : Kind) (sys : System) (o : Overlap) (e : PairEvidence) (why other : EvidenceReason) → IsPairJudged kind sys o e (Some why) → IsPairJudged kind sys o e (Some other)
    → why ≡ other
one_judged kind sys o e why other a b = (let same = pair_judged_once kind sys o e (Some why) (Some other) a b in cc)
