-- A system with a valid certificate is almost orthogonal.
use Rattle.std.proofs.Common.{◌≡◌, inl, inr, ℕ, zero, suc, length, take, drop, List, [], ◌∷◌, Some, None, refl, sym, ap, ◌∙◌, subst, subst₂}
use Rattle.std.proofs.Math.Seq.{take-append_seam, drop-append_seam}
use Rattle.rewriting.specs.Prelude.{IsWellFormed, IsAt, IsCriticalPair, condition_under, conditions_under}
use Rattle.rewriting.proofs.Common.{Term, Position, Substitution, apply, compose, values_of, even, odd, Condition, Rule, System}
use Rattle.rewriting.proofs.Instances.{apply-apply}
use Rattle.rewriting.proofs.Conditions.{length-conditions_under}
use Rattle.rewriting.proofs.Levels.{reaches_of_steps}
use Rattle.unifier_run.specs.Run.{value, clash}
use Rattle.unifier_run.specs.Overlaps.{Overlap}
use Rattle.caps.specs.Caps.{any}
use Rattle.caps.specs.Evidence.{IsPairOutcome}
use Rattle.caps.proofs.Rigid.{caps_apart}
use Rattle.certificates.specs.Prelude.{PairEntry, PairEvidence, trivial_pair, infeasible_pair, conflicting_pair, joined_pair, unfeasible_pair, hypothesis_at, not_allowed}
use Rattle.level_theorem.specs.Evidence.{NeverMeet, IsHarmless, trivial, infeasible, conflict}
use Rattle.level_theorem.specs.AlmostOrthogonal.{IsAlmostOrthogonal}
use Rattle.valid_certificates.specs.Kinds.{ortho}
use Rattle.valid_certificates.specs.PairEvidence.{IsPairJudged, IsConflictJudged, inner_conditions_of, outer_conditions_of}
use Rattle.valid_certificates.specs.Confluence.{IsValidOrtho}
use Rattle.judged_evidence.proofs.Judged.{judged_infeasible}
use Rattle.valid_certificates.proofs.Settled.{settled}

-- terms whose caps clash never meet, whatever the levels
never_meet : (sys : System) (u v : Term) → IsPairOutcome sys any u v clash → NeverMeet sys u v
never_meet sys u v clashes m n c d z over_c over_d p q = caps_apart sys u v (values_of c) (values_of d) z clashes (reaches_of_steps sys m _ _ p) (reaches_of_steps sys n _ _ q)

-- a condition among instances is the instance of one
instance_at : (s : Substitution) (cs : List Condition) (k : ℕ) (c : Condition) → IsAt (conditions_under s cs) k c → (a : Condition) × IsAt cs k a × (c ≡ condition_under s a)
instance_at s [] k c e = absurd (cc)
instance_at s (a ∷ cs) zero c e = (a, refl, (let here : Some (condition_under s a) ≡ Some c = e in cc))
instance_at s (a ∷ cs) (suc k) c e = instance_at s cs k c e

numbered : (s : Substitution) (cs : List Condition) (k : ℕ) (c : Condition) → hypothesis_at (conditions_under s cs) k ≡ Some c
    → (i : ℕ) × (a : Condition) × IsAt cs i a × (c ≡ condition_under s a)
numbered s cs zero c e = absurd (cc)
numbered s cs (suc k) c e = let x = instance_at s cs k c e in (k, x.0, x.1, x.2)

module _ (sys : System) (m : Substitution) (p : Position) (inner outer : Rule) (part : Term) (o : Overlap) (is : IsCriticalPair m p inner outer part o.pair)
    (counted : o.inner_conditions ≡ length inner.conditions) where
  inner_length : o.inner_conditions ≡ length (conditions_under (compose even m) inner.conditions)
  inner_length = counted ∙ sym (length-conditions_under (compose even m) inner.conditions)

  -- the first conditions of the pair are those of the inner rule, the others those of the outer one
  of_inner : inner_conditions_of o ≡ conditions_under (compose even m) inner.conditions
  of_inner =
      ap (λ n. take n o.pair.conditions) inner_length
      ∙ (ap (take (length (conditions_under (compose even m) inner.conditions))) is.conditions
      ∙ take-append_seam (conditions_under (compose even m) inner.conditions) (conditions_under (compose odd m) outer.conditions))

  of_outer : outer_conditions_of o ≡ conditions_under (compose odd m) outer.conditions
  of_outer =
      ap (λ n. drop n o.pair.conditions) inner_length
      ∙ (ap (drop (length (conditions_under (compose even m) inner.conditions))) is.conditions
      ∙ drop-append_seam (conditions_under (compose even m) inner.conditions) (conditions_under (compose odd m) outer.conditions))

  in_conflict : (a b : ℕ) → IsConflictJudged sys o a b None → IsHarmless sys m p inner outer o.pair
  in_conflict a b (c, d, at, same, clashes) =
      let x = numbered (compose even m) inner.conditions a c (subst (λ cs. hypothesis_at cs a ≡ Some c) of_inner at.inner) in
      let y = numbered (compose odd m) outer.conditions b d (subst (λ cs. hypothesis_at cs b ≡ Some d) of_outer at.outer) in
      let left_of_x : apply m (apply even x.1.left) ≡ c.left = apply-apply even m x.1.left ∙ sym (ap (λ z. z.left) x.3) in
      let left_of_y : apply m (apply odd y.1.left) ≡ d.left = apply-apply odd m y.1.left ∙ sym (ap (λ z. z.left) y.3) in
      let right_of_x : apply m (apply even x.1.right) ≡ c.right = apply-apply even m x.1.right ∙ sym (ap (λ z. z.right) x.3) in
      let right_of_y : apply m (apply odd y.1.right) ≡ d.right = apply-apply odd m y.1.right ∙ sym (ap (λ z. z.right) y.3) in
      conflict x.0 y.0 x.1 y.1 x.2 y.2 (left_of_x ∙ (same ∙ sym left_of_y))
      (subst₂ (NeverMeet sys) (sym right_of_x) (sym right_of_y) (never_meet sys c.right d.right clashes))

  harmless : (e : PairEvidence) → o.position ≡ p → IsPairJudged ortho sys o e None → IsHarmless sys m p inner outer o.pair
  harmless trivial_pair at (inl (allowed, judged)) = trivial (sym at ∙ judged.0) judged.1
  harmless (infeasible_pair e) at (inl (allowed, judged)) = infeasible (judged_infeasible sys o.pair.conditions e judged)
  harmless (conflicting_pair a b) at (inl (allowed, judged)) = in_conflict a b judged
  harmless (joined_pair d e) at (inl (allowed, judged)) = absurd allowed
  harmless (unfeasible_pair k d e) at (inl (allowed, judged)) = absurd allowed
  harmless e at (inr (forbidden, none)) = absurd (let bad : None ≡ Some not_allowed = none in cc)

pub almost_orthogonal : (sys : System) (es : List PairEntry) → IsWellFormed sys → IsValidOrtho sys es → IsAlmostOrthogonal sys
almost_orthogonal sys es good valid =
    record {
      well_formed = good;
      left_linear = valid.classes.left_linear;
      type3 = valid.classes.type3;
      oriented = valid.classes.oriented;
      right_stable = valid.classes.right_stable;
      overlaps =
          λ i p j o.
          let s = settled ortho sys es valid.pairs i p j o in
          (value s.by, s.listed.pair, s.pair, harmless sys (value s.by) p o.inner o.outer o.part s.listed s.pair s.counted s.evidence s.is_position s.judged);
    }
