-- From what the parts answer to the judgement of an overlap's evidence.
use Rattle.std.proofs.Common.{ℕ, zero, suc, ◌≡◌, ◌-◌, List, [], ◌∷◌, map, take, drop, length, Option, None, Some, Result, Ok, Err, sym, ap, ◌∙◌, subst, arith}
use Rattle.std.proofs.lemmas.List.{take-map, drop-map, take_all, length-drop}
use Rattle.rewriting.specs.Terms as math
use Rattle.rewriting.specs.Prelude.{Fits, Condition, System}
use Rattle.unifier_run.specs.Overlaps.{Overlap}
use Rattle.certificates.specs.Prelude.{Derivation, Derives, hypothesis_at, EvidenceReason, conflict_left, conflict_unifies, conflict_large, unfeasible_first, unfeasible_second}
use Rattle.certificates.specs.Prelude.{first_reducible, second_reducible, unfeasible_unifies, unfeasible_large, DoConditionsFit}
use Rattle.certificates.proofs.Sizes.{hypothesis_fits}
use Rattle.term_core.specs.RuleView.{condition_view}
use Rattle.term_core.specs.declared.systems.Cond as program
use Rattle.cert_model.specs.ReasonView.{evidence_reason_view}
use Rattle.critical_pairs.specs.View.{overlap_view}
use Rattle.critical_pairs.specs.declared.Overlap as overlap
use Rattle.refuter.specs.Answers.{RefutesAnswers}
use Rattle.refuter.specs.declared.Refusal.{Refusal}
use Rattle.refuter.specs.declared.Refusal.TheVariants.{Reason, NoMemory}
use Rattle.valid_certificates.specs.PairEvidence.{inner_conditions_of, outer_conditions_of, AreConditionsOf, IsConflictJudged, DerivesTwo, IsUnfeasibleJudged}
use Rattle.pair_check.specs.Judges.{IsConflictOf, EndAnswers, AreIrreducibleApart}

-- a judgement that gives another one for each reason and for none
pub judged_too : (P Q : Option EvidenceReason → Type 0) → ((o : Option EvidenceReason) → P o → Q o) → (r : Result (Unit {0}) Refusal) → RefutesAnswers P r → RefutesAnswers Q r
judged_too P Q f (Ok _) h = f None h
judged_too P Q f (Err (Reason reason)) h = f (Some (evidence_reason_view reason)) h
judged_too P Q f (Err NoMemory) h = tt

take_fit : (n : ℕ) (cs : List Condition) → DoConditionsFit cs → DoConditionsFit (take n cs)
take_fit zero [] h = tt
take_fit zero (c ∷ cs) h = tt
take_fit (suc n) [] h = tt
take_fit (suc n) (c ∷ cs) (l, r, rest) = (l, r, take_fit n cs rest)

drop_fit : (n : ℕ) (cs : List Condition) → DoConditionsFit cs → DoConditionsFit (drop n cs)
drop_fit zero [] h = tt
drop_fit zero (c ∷ cs) h = h
drop_fit (suc n) [] h = tt
drop_fit (suc n) (c ∷ cs) (l, r, rest) = drop_fit n cs rest

-- the conditions of the inner rule, which are the first, and those of the outer one
module _ (o : overlap.Overlap) where
  inner_is : inner_conditions_of (overlap_view o) ≡ map condition_view (take o.inner_conds o.conds.items)
  inner_is = take-map condition_view o.inner_conds o.conds.items

  outer_is : outer_conditions_of (overlap_view o) ≡ map condition_view (drop o.inner_conds o.conds.items)
  outer_is = drop-map condition_view o.inner_conds o.conds.items

  pub inner_fits : DoConditionsFit (map condition_view o.conds.items) → (a : ℕ) (c : Condition) → hypothesis_at (map condition_view (take o.inner_conds o.conds.items)) a ≡ Some c → Fits c.right
  inner_fits h a c e = (hypothesis_fits (map condition_view (take o.inner_conds o.conds.items)) a c e (subst DoConditionsFit inner_is (take_fit o.inner_conds (map condition_view o.conds.items) h))).1

  pub outer_fits : DoConditionsFit (map condition_view o.conds.items) → (a : ℕ) (c : Condition) → hypothesis_at (map condition_view (drop o.inner_conds o.conds.items)) a ≡ Some c → Fits c.right
  outer_fits h a c e = (hypothesis_fits (map condition_view (drop o.inner_conds o.conds.items)) a c e (subst DoConditionsFit outer_is (drop_fit o.inner_conds (map condition_view o.conds.items) h))).1

  -- as slices of the program
  pub inner_slice : (ds : List program.Cond) → ds ≡ o.conds.items → take o.inner_conds ds ≡ take o.inner_conds o.conds.items
  inner_slice ds same = ap (take o.inner_conds) same

  pub outer_slice : (ds : List program.Cond) → ds ≡ o.conds.items → take (length ds - o.inner_conds) (drop o.inner_conds ds) ≡ drop o.inner_conds o.conds.items
  outer_slice ds same =
      let long = length-drop o.inner_conds ds in
      subst (λ z. take (length ds - o.inner_conds) (drop o.inner_conds ds) ≡ drop o.inner_conds z) same (take_all (length ds - o.inner_conds) (drop o.inner_conds ds) (omega (arith, long)))

  pub inner_at : (a : ℕ) (x : Option Condition) → hypothesis_at (map condition_view (take o.inner_conds o.conds.items)) a ≡ x → hypothesis_at (inner_conditions_of (overlap_view o)) a ≡ x
  inner_at a x e = ap (λ z. hypothesis_at z a) inner_is ∙ e

  pub outer_at : (a : ℕ) (x : Option Condition) → hypothesis_at (map condition_view (drop o.inner_conds o.conds.items)) a ≡ x → hypothesis_at (outer_conditions_of (overlap_view o)) a ≡ x
  outer_at a x e = ap (λ z. hypothesis_at z a) outer_is ∙ e

module _ (sys : System) (o : Overlap) where
  conflict_of : (a b : ℕ) (c d : Condition) → AreConditionsOf o a b c d → (r : Option EvidenceReason) → IsConflictOf sys c d r → IsConflictJudged sys o a b r
  conflict_of a b c d are None h = (c, d, are, h.0, h.1)
  conflict_of a b c d are (Some conflict_left) h = (c, d, are, h)
  conflict_of a b c d are (Some conflict_unifies) h = (c, d, are, h.0, h.1)
  conflict_of a b c d are (Some conflict_large) h = (c, d, are, h.0, h.1)
  conflict_of a b c d are (Some _) h = absurd h

  pub conflict_judged : (a b : ℕ) (c d : Condition) → AreConditionsOf o a b c d → (r : Result (Unit {0}) Refusal) → RefutesAnswers (IsConflictOf sys c d) r
      → RefutesAnswers (IsConflictJudged sys o a b) r
  conflict_judged a b c d are r h = judged_too (IsConflictOf sys c d) (IsConflictJudged sys o a b) (conflict_of a b c d are) r h

  -- derivations from the left side of a condition
  pub first_fails : (k : ℕ) (c : Condition) → hypothesis_at o.pair.conditions k ≡ Some c → (d e : Derivation) (r : Refusal) → EndAnswers sys o.pair.conditions c.left d unfeasible_first (Err r)
      → RefutesAnswers (IsUnfeasibleJudged sys o k d e) (Err r)
  first_fails k c at d e (Reason reason) (bad, is, h) = subst (λ z. IsUnfeasibleJudged sys o k d e (Some z)) (sym is) (c, at, h)
  first_fails k c at d e NoMemory h = tt

  pub second_fails : (k : ℕ) (c : Condition) → hypothesis_at o.pair.conditions k ≡ Some c → (d e : Derivation) (u : math.Term) → Derives sys o.pair.conditions c.left d u
      → (r : Refusal) → EndAnswers sys o.pair.conditions c.left e unfeasible_second (Err r) → RefutesAnswers (IsUnfeasibleJudged sys o k d e) (Err r)
  second_fails k c at d e u first (Reason reason) (bad, is, h) = subst (λ z. IsUnfeasibleJudged sys o k d e (Some z)) (sym is) (c, at, (u, first, h))
  second_fails k c at d e u first NoMemory h = tt

  unfeasible_of : (k : ℕ) (d e : Derivation) (u v : math.Term) → DerivesTwo sys o k d e u v → (r : Option EvidenceReason) → AreIrreducibleApart sys u v r → IsUnfeasibleJudged sys o k d e r
  unfeasible_of k d e u v two None h = (u, v, two, h.0, h.1, h.2)
  unfeasible_of k d e u v two (Some first_reducible) h = (u, v, two, h)
  unfeasible_of k d e u v two (Some second_reducible) h = (u, v, two, h.0, h.1)
  unfeasible_of k d e u v two (Some unfeasible_unifies) h = (h.2.0, (u, v, two, h.0, h.1, h.2.1))
  unfeasible_of k d e u v two (Some unfeasible_large) h = (u, v, two, h.0, h.1, h.2)
  unfeasible_of k d e u v two (Some _) h = absurd h

  pub unfeasible_judged : (k : ℕ) (d e : Derivation) (u v : math.Term) → DerivesTwo sys o k d e u v → (r : Result (Unit {0}) Refusal) → RefutesAnswers (AreIrreducibleApart sys u v) r
      → RefutesAnswers (IsUnfeasibleJudged sys o k d e) r
  unfeasible_judged k d e u v two r h = judged_too (AreIrreducibleApart sys u v) (IsUnfeasibleJudged sys o k d e) (unfeasible_of k d e u v two) r h
