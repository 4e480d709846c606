-- Valid evidence settles a critical pair.
use Rattle.std.proofs.Common.{◌≡◌, ℕ, zero, suc, inl, inr, List, [], ◌∷◌, None, Some, slice_get, ap, subst}
use Rattle.rewriting.specs.Prelude.{IsAbsolutelyIrreducible, IsWellFormed}
use Rattle.rewriting.proofs.Common.{Term, nil, cons, IsOver, Signature, Condition, System, AreUnifiable}
use Rattle.unifier_run.specs.Overlaps.{Overlap}
use Rattle.unifier_run.specs.Run.{IsOutcome, clash}
use Rattle.unifier_run.specs.Irreducible.{DoAllClash}
use Rattle.unifier_run.proofs.General.{no_unifier}
use Rattle.certificates.specs.Prelude.{Derivation, PairEvidence, trivial_pair, infeasible_pair, conflicting_pair, joined_pair, unfeasible_pair, not_allowed, AreConditionsOver}
use Rattle.certificates.proofs.Sound.{derivation_reaches}
use Rattle.descent_theorem.specs.Evidence.{IsSettled, infeasible, joining, unfeasible}
use Rattle.valid_certificates.specs.Kinds.{quasi}
use Rattle.valid_certificates.specs.PairEvidence.{IsPairJudged, IsEvidenceJudged, IsAllowed, IsJoinJudged, IsOutcomeOfTwo}
use Rattle.judged_evidence.proofs.Judged.{judged_infeasible}
use Rattle.quasi_check.proofs.SoundPairs.{IsPairOver}

-- a term all of whose runs clash is absolutely irreducible
pub none_unifies : (sys : System) (t : Term) → DoAllClash sys t → IsAbsolutelyIrreducible sys t
none_unifies sys t h p u i r at v is (s, e) = no_unifier _ _ (h p i u r (record { is_part = at; no_variable = v; is_rule = is })) s (ap (λ z. cons z nil) e)

not_unifiable : (u v : Term) → IsOutcome (cons u nil) (cons v nil) clash → AreUnifiable u v → ⊥
not_unifiable u v run (s, e) = no_unifier _ _ run s (ap (λ z. cons z nil) e)

condition_over : (ar : Signature) (cs : List Condition) (k : ℕ) (c : Condition) → AreConditionsOver ar cs → slice_get cs k ≡ Some c → IsOver ar c.left
condition_over ar [] k c h e = absurd (cc)
condition_over ar (d ∷ cs) zero c (left, right, rest) e = (let same : d ≡ c = cc in subst (λ z. IsOver ar z.left) same left)
condition_over ar (d ∷ cs) (suc k) c (left, right, rest) e = condition_over ar cs k c rest e

module _ (sys : System) (good : IsWellFormed sys) (o : Overlap) (over : IsPairOver sys.arities o.pair) where
  joined_settles : (d e : Derivation) → IsJoinJudged sys o d e None → IsSettled sys o.pair
  joined_settles d e (w, left, right) =
      joining (λ n b values meets. (
        _,
        derivation_reaches sys good o.pair.conditions over.conditions o.pair.left d w over.left left _ n values meets,
        derivation_reaches sys good o.pair.conditions over.conditions o.pair.right e w over.right right _ n values meets,
      ))

  unfeasible_settles : (k : ℕ) (d e : Derivation) → IsOutcomeOfTwo sys o k d e clash → IsSettled sys o.pair
  unfeasible_settles zero d e (u, v, two, one, other, run) = absurd (let none = two.is_condition in cc)
  unfeasible_settles (suc k) d e (u, v, two, one, other, run) =
      let c = two.condition in
      let start = condition_over sys.arities o.pair.conditions k c over.conditions two.is_condition in
      unfeasible k c u v two.is_condition
      (λ n b values meets. derivation_reaches sys good o.pair.conditions over.conditions c.left d u start two.first _ n values meets)
      (λ n b values meets. derivation_reaches sys good o.pair.conditions over.conditions c.left e v start two.second _ n values meets)
      (none_unifies sys u one) (none_unifies sys v other) (not_unifiable u v run)

  evidence_settles : (e : PairEvidence) → IsAllowed quasi e → IsEvidenceJudged sys o e None → IsSettled sys o.pair
  evidence_settles trivial_pair allowed h = absurd allowed
  evidence_settles (infeasible_pair e) allowed h = infeasible (judged_infeasible sys o.pair.conditions e h)
  evidence_settles (conflicting_pair a b) allowed h = absurd allowed
  evidence_settles (joined_pair d e) allowed h = joined_settles d e h
  evidence_settles (unfeasible_pair k d e) allowed h = unfeasible_settles k d e h

  pub judged_settles : (e : PairEvidence) → IsPairJudged quasi sys o e None → IsSettled sys o.pair
  judged_settles e (inl (allowed, h)) = evidence_settles e allowed h
  judged_settles e (inr (_, h)) = absurd (let none : None ≡ Some not_allowed = h in cc)
