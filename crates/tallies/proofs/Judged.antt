-- Entries for overlaps have one tally, and it tells the first reason why they do not settle these.
use Rattle.std.proofs.Common.{◌≡◌, ◌⊎◌, inl, inr, ℕ, suc, List, [], ◌∷◌, ◌++◌, refl, sym, ap, ◌∙◌, subst}
use Rattle.rewriting.specs.Rules.{System}
use Rattle.rewriting.proofs.Once.{IsOnce}
use Rattle.unifier_run.specs.Overlaps.{Overlap, AreOverlaps}
use Rattle.certificates.specs.Prelude.{PairEntry, Rejection, evidence_fails}
use Rattle.valid_certificates.specs.Kinds.{Kind}
use Rattle.valid_certificates.specs.Entries.{AreSettled, AreNotSettled, DoSettle, DoNotSettle, pair_is_large, pairs_are_many, entry_fails}
use Rattle.valid_certificates.proofs.OneEvidence.{never_judged, one_judged}
use Rattle.valid_certificates.proofs.OneOverlaps.{overlaps_once, overlaps_or_large, overlaps_or_many}
use Rattle.tallies.specs.Tally.{Tally, passed, failed, AreTallied}
use Rattle.tallies.proofs.Taking.{failure_stays}

module _ (kind : Kind) (sys : System) where
  pub tallied_once : (n : ℕ) (os : List Overlap) (es : List PairEntry) → IsOnce Tally (AreTallied kind sys n os es)
  tallied_once n os [] t u a b = a ∙ sym b
  tallied_once n [] (e ∷ es) t u a b = a ∙ sym b
  tallied_once n (o ∷ os) (e ∷ es) t u (inl a) (inl b) = a.1 ∙ sym b.1
  tallied_once n (o ∷ os) (e ∷ es) t u (inl a) (inr (inl b)) = absurd (a.0 b.0)
  tallied_once n (o ∷ os) (e ∷ es) t u (inl a) (inr (inr b)) = absurd (a.0 b.0)
  tallied_once n (o ∷ os) (e ∷ es) t u (inr (inl a)) (inl b) = absurd (b.0 a.0)
  tallied_once n (o ∷ os) (e ∷ es) t u (inr (inl (_, (why, h, p)))) (inr (inl (_, (other, k, q)))) =
      p ∙ ap (λ w. failed (evidence_fails (suc n) w)) (one_judged kind sys o e.evidence why other h k) ∙ sym q
  tallied_once n (o ∷ os) (e ∷ es) t u (inr (inl (_, (why, h, p)))) (inr (inr (_, k, b))) = absurd (never_judged kind sys o e.evidence why k h)
  tallied_once n (o ∷ os) (e ∷ es) t u (inr (inr a)) (inl b) = absurd (b.0 a.0)
  tallied_once n (o ∷ os) (e ∷ es) t u (inr (inr (_, k, a))) (inr (inl (_, (why, h, p)))) = absurd (never_judged kind sys o e.evidence why k h)
  tallied_once n (o ∷ os) (e ∷ es) t u (inr (inr (_, _, a))) (inr (inr (_, _, b))) = tallied_once (suc n) os es t u a b

  -- settled overlaps have entries that pass
  pub settled_passes : (n : ℕ) (os : List Overlap) (es : List PairEntry) → AreSettled kind sys os es → (m : ℕ) × AreTallied kind sys n os es (passed m)
  settled_passes n [] [] h = (n, refl)
  settled_passes n [] (e ∷ es) h = absurd h
  settled_passes n (o ∷ os) [] h = absurd h
  settled_passes n (o ∷ os) (e ∷ es) (same, j, h) = (let rest = settled_passes (suc n) os es h in (rest.0, inr (inr (same, j, rest.1))))

  -- where overlaps are not settled, an entry fails for that reason, or all pass and one is missing
  abbrev pub FailsOrPasses : ℕ → List Overlap → List PairEntry → Rejection → Type 0
  FailsOrPasses n os es r = AreTallied kind sys n os es (failed r) ⊎ ((m : ℕ) × AreTallied kind sys n os es (passed m))

  pub not_settled_fails : (n : ℕ) (os : List Overlap) (es : List PairEntry) (r : Rejection) → AreNotSettled kind sys (suc n) os es r → FailsOrPasses n os es r
  not_settled_fails n [] [] r h = absurd h
  not_settled_fails n [] (e ∷ es) r h = inl (ap failed h)
  not_settled_fails n (o ∷ os) [] r h = inr (n, refl)
  not_settled_fails n (o ∷ os) (e ∷ es) r (inl (other, h)) = inl (inl (other, ap failed h))
  not_settled_fails n (o ∷ os) (e ∷ es) r (inr (inl (same, (why, bad, h)))) = inl (inr (inl (same, (why, bad, ap failed h))))
  not_settled_fails n (o ∷ os) (e ∷ es) r (inr (inr (same, j, h))) = go (not_settled_fails (suc n) os es r h)
    where
      go : FailsOrPasses (suc n) os es r → FailsOrPasses n (o ∷ os) (e ∷ es) r
      go (inl k) = inl (inr (inr (same, j, k)))
      go (inr (m, k)) = inr (m, inr (inr (same, j, k)))

  failed_or_passed : (n : ℕ) (os : List Overlap) (es : List PairEntry) (r : Rejection) (m : ℕ) → AreTallied kind sys n os es (failed r) → AreTallied kind sys n os es (passed m) → ⊥
  failed_or_passed n os es r m a b = (let same = tallied_once n os es (failed r) (passed m) a b in cc)

  one_failure : (n : ℕ) (os : List Overlap) (es : List PairEntry) (r s : Rejection) → AreTallied kind sys n os es (failed r) → AreTallied kind sys n os es (failed s) → r ≡ s
  one_failure n os es r s a b = (let same = tallied_once n os es (failed r) (failed s) a b in cc)

  -- where the overlaps have a list, it is these that are not settled
  pub listed_not_settled : (os : List Overlap) → AreOverlaps sys os → (es : List PairEntry) (r : Rejection) → DoNotSettle kind sys es r → AreNotSettled kind sys 1 os es r
  listed_not_settled os are es r (pair_is_large i p j a) = absurd (overlaps_or_large sys os i p j are a)
  listed_not_settled os are es r (pairs_are_many a) = absurd (overlaps_or_many sys os are a)
  listed_not_settled os are es r (entry_fails qs x all a) = subst (λ z. AreNotSettled kind sys 1 z es x) (overlaps_once sys qs os all are) a

  -- entries of which one fails settle nothing, and they have this one reason
  module _ (os : List Overlap) (are : AreOverlaps sys os) (es : List PairEntry) (r : Rejection) (h : AreTallied kind sys 0 os es (failed r)) where
    pub failed_never_settle : DoSettle kind sys es → ⊥
    failed_never_settle (qs, all, k) =
        let p = settled_passes 0 os es (subst (λ x. AreSettled kind sys x es) (overlaps_once sys qs os all are) k) in
        failed_or_passed 0 os es r p.0 h p.1

    pub failed_reason : (s : Rejection) → DoNotSettle kind sys es s → s ≡ r
    failed_reason s not = go (not_settled_fails 0 os es s (listed_not_settled os are es s not))
      where
        go : FailsOrPasses 0 os es s → s ≡ r
        go (inl k) = one_failure 0 os es s r k h
        go (inr (m, k)) = absurd (failed_or_passed 0 os es r m h k)

  -- where one more entry is taken, a tally that has failed stays
  pub failed_takes : (os : List Overlap) (es : List PairEntry) (e : PairEntry) (t u : Tally) → AreTallied kind sys 0 os es t
      → (AreTallied kind sys 0 os es t → AreTallied kind sys 0 os (es ++ e ∷ []) u) → (r : Rejection) → t ≡ failed r → u ≡ failed r
  failed_takes os es e t u h goes r same =
      tallied_once 0 os (es ++ e ∷ []) u (failed r) (goes h) (failure_stays kind sys 0 os es (e ∷ []) r (subst (λ x. AreTallied kind sys 0 os es x) same h))
