-- Entries settle the overlaps of a system, or refute the redexes of two terms, or there is a first reason why they do not.
use Rattle.std.proofs.Common.{◌≡◌, ◌⊎◌, inl, inr, ℕ, suc, List, [], ◌∷◌, Some, None, refl, sym, ap, ap₂, ◌∙◌, subst}
use native.Mathlib.Decide.{ℕ_discrete}
use Rattle.std.specs.FinMap.{empty}
use Rattle.rewriting.specs.Prelude.{IsAmong, IsLeastMatch, conditions_under, Fits}
use Rattle.rewriting.proofs.Common.{Term, Position, Bindings, Condition, System}
use Rattle.rewriting.proofs.Equality.{same}
use Rattle.unifier_run.specs.Overlaps.{Triple, Overlap, triple, AreOverlaps}
use Rattle.unifier_run.specs.Run.{Outcome, unifier, clash, too_large}
use Rattle.unifier_run.proofs.Total.{Listing, overlaps_total}
use Rattle.caps.specs.Caps.{Cap, kept, IsCapLarge}
use Rattle.caps.specs.Evidence.{IsPairOutcome}
use Rattle.rewriting.proofs.Equality.{fits_decided}
use Rattle.rewriting.proofs.Matched.{instance_matched}
use Rattle.certificates.specs.Prelude.{PairEntry, Apartness, Peak, Redex, by_normal_forms, by_rigid_caps, InfeasibilityEvidence, PairEvidence, tcap_large, BadStep, Rejection, pair_large}
use Rattle.certificates.specs.Prelude.{too_many_pairs, pair_missing, pair_extra, evidence_fails, foreign, first_bad, second_bad, same_term, not_normal, redex_extra, redex_fails, caps_unify}
use Rattle.certificates.specs.Prelude.{caps_large, DoConditionsFit, Derives, IsFirstBad}
use Rattle.certificates.proofs.DerivationTotal.{derivation_total}
use Rattle.valid_certificates.specs.Kinds.{Kind}
use Rattle.judged_evidence.specs.Evidence.{IsInfeasibilityJudged}
use Rattle.valid_certificates.specs.PairEvidence.{IsPairJudged}
use Rattle.valid_certificates.specs.Entries.{triple_of, AreSettled, AreNotSettled, DoSettle, DoNotSettle, pair_is_large, pairs_are_many, entry_fails}
use Rattle.valid_certificates.specs.Peaks.{MatchesAt, RedexPlace, IsRedex, AreRedexes, chosen, at_redex, AreConditionsAt, IsRedexJudged, entry_place, AreRefuted, AreNotRefuted}
use Rattle.valid_certificates.specs.Peaks.{AreShownApart, AreNotShownApart, LeadsTo, HasFileSymbols, IsValidPeak, IsPeakRejected, foreign_start, first_fails, second_fails}
use Rattle.valid_certificates.specs.Peaks.{not_apart}
use Rattle.valid_certificates.proofs.EvidenceTotal.{HasJudgement}
use Rattle.valid_certificates.proofs.OneOverlaps.{IsSame}
use Rattle.valid_certificates.proofs.FileSymbols.{below_decided}
use Rattle.rewriting.proofs.Decided.{IsDecided}
use Rattle.valid_certificates.proofs.RedexTotal.{redexes_total}

-- it is valid, or rejected for some reason
abbrev pub HasAnswer : Type 0 → (Rejection → Type 0) → Type 0
HasAnswer Valid Rejected = Valid ⊎ ((r : Rejection) × Rejected r)

same_position : (p q : Position) → Dec (p ≡ q)
same_position [] [] = yes refl
same_position [] (l ∷ q) = no (λ e. cc)
same_position (k ∷ p) [] = no (λ e. cc)
same_position (k ∷ p) (l ∷ q) = go (ℕ_discrete k l) (same_position p q)
  where
    go : Dec (k ≡ l) → Dec (p ≡ q) → Dec (k ∷ p ≡ l ∷ q)
    go (yes e) (yes h) = yes (ap₂ (λ (n : ℕ) (r : Position). n ∷ r) e h)
    go (yes e) (no n) = no (λ h. n (cc))
    go (no n) d = no (λ h. n (cc))

same_triple : (t u : Triple) → Dec (t ≡ u)
same_triple (i, (p, j)) (k, (q, l)) = go (ℕ_discrete i k) (same_position p q) (ℕ_discrete j l)
  where
    go : Dec (i ≡ k) → Dec (p ≡ q) → Dec (j ≡ l) → Dec (IsSame (i, (p, j)) (k, (q, l)))
    go (yes e) (yes h) (yes s) =
        let inside : Position → ℕ → Position × ℕ = λ r n. (r, n) in
        let whole : ℕ → Position × ℕ → Triple = λ n x. (n, x) in
        yes (ap₂ whole e (ap₂ inside h s))
    go (no n) h s = no (λ e. n (ap (λ (x : Triple). x.0) e))
    go (yes e) (no n) s = no (λ h. n (ap (λ (x : Triple). x.1.0) h))
    go (yes e) (yes h) (no n) = no (λ k. n (ap (λ (x : Triple). x.1.1) k))

same_place : (a b : RedexPlace) → Dec (a ≡ b)
same_place a b = go (ℕ_discrete a.which b.which) (same_position a.position b.position) (ℕ_discrete a.rule b.rule)
  where
    go : Dec (a.which ≡ b.which) → Dec (a.position ≡ b.position) → Dec (a.rule ≡ b.rule) → Dec (a ≡ b)
    go (yes e) (yes h) (yes s) =
        let first : ℕ → Position → RedexPlace = λ n p. record { which = n; position = p; rule = a.rule } in
        let second : ℕ → RedexPlace = λ n. record { which = b.which; position = b.position; rule = n } in
        yes (ap₂ first e h ∙ ap second s)
    go (no n) h s = no (λ e. n (ap (λ (x : RedexPlace). x.which) e))
    go (yes e) (no n) s = no (λ h. n (ap (λ (x : RedexPlace). x.position) h))
    go (yes e) (yes h) (no n) = no (λ k. n (ap (λ (x : RedexPlace). x.rule) k))

-- the entries for overlaps, where evidence for each is judged
module _ (kind : Kind) (sys : System) (judged : (o : Overlap) (e : PairEvidence) → HasJudgement (IsPairJudged kind sys o e)) where
  abbrev Settled : ℕ → List Overlap → List PairEntry → Type 0
  Settled n os es = HasAnswer (AreSettled kind sys os es) (AreNotSettled kind sys n os es)

  entry_total : (n : ℕ) (o : Overlap) (os : List Overlap) (e : PairEntry) (es : List PairEntry) → Dec (triple_of e ≡ triple o)
      → HasJudgement (IsPairJudged kind sys o e.evidence) → Settled (suc n) os es
      → Settled n (o ∷ os) (e ∷ es)
  entry_total n o os e es (no d) j rest = inr (pair_missing o.inner o.position o.outer, inl (d, refl))
  entry_total n o os e es (yes q) (Some why, h) rest = inr (evidence_fails n why, inr (inl (q, (why, h, refl))))
  entry_total n o os e es (yes q) (None, h) (inl s) = inl (q, h, s)
  entry_total n o os e es (yes q) (None, h) (inr (r, f)) = inr (r, inr (inr (q, h, f)))

  settled_total : (n : ℕ) (os : List Overlap) (es : List PairEntry) → Settled n os es
  settled_total n [] [] = inl tt
  settled_total n [] (e ∷ es) = inr (pair_extra n, refl)
  settled_total n (o ∷ os) [] = inr (pair_missing o.inner o.position o.outer, refl)
  settled_total n (o ∷ os) (e ∷ es) = entry_total n o os e es (same_triple (triple_of e) (triple o)) (judged o e.evidence) (settled_total (suc n) os es)

  pub entries_total : (es : List PairEntry) → HasAnswer (DoSettle kind sys es) (DoNotSettle kind sys es)
  entries_total es = go (overlaps_total sys)
    where
      listed : (os : List Overlap) → AreOverlaps sys os → Settled 1 os es → HasAnswer (DoSettle kind sys es) (DoNotSettle kind sys es)
      listed os are (inl s) = inl (os, are, s)
      listed os are (inr (r, f)) = inr (r, entry_fails os r are f)

      go : Listing sys → HasAnswer (DoSettle kind sys es) (DoNotSettle kind sys es)
      go (inl (os, are)) = listed os are (settled_total 1 os es)
      go (inr (inl (i, p, j, large))) = inr (pair_large i p j, pair_is_large i p j large)
      go (inr (inr many)) = inr (too_many_pairs, pairs_are_many many)

conditions_fit : (cs : List Condition) → Dec (DoConditionsFit cs)
conditions_fit [] = yes tt
conditions_fit (c ∷ cs) = go (fits_decided c.left) (fits_decided c.right) (conditions_fit cs)
  where
    go : Dec (Fits c.left) → Dec (Fits c.right) → Dec (DoConditionsFit cs) → Dec (DoConditionsFit (c ∷ cs))
    go (yes a) (yes b) (yes d) = yes (a, b, d)
    go (no n) b d = no (λ h. n h.0)
    go (yes a) (no n) d = no (λ h. n h.1)
    go (yes a) (yes b) (no n) = no (λ h. n h.2)

-- the ends of a peak, where evidence for conditions is judged, and two terms by their rigid caps
module _ (sys : System) (judged : (cs : List Condition) (e : InfeasibilityEvidence) → HasJudgement (IsInfeasibilityJudged sys cs e))
    (two_caps : (leaf : ℕ → Cap) (u v : Term) → ((o : Outcome) × IsPairOutcome sys leaf u v o) ⊎ (IsCapLarge sys leaf u ⊎ IsCapLarge sys leaf v)) where
  redex_total : (t : Term) (r : RedexPlace) (e : InfeasibilityEvidence) → MatchesAt sys t r.position r.rule → HasJudgement (IsRedexJudged sys t r e)
  redex_total t r e m = go (conditions_fit cs) (judged cs e)
    where
      match : (b : Bindings) × IsLeastMatch empty b m.rule.left m.part
      match = instance_matched m.rule.left m.part m.matches

      cs : List Condition
      cs = conditions_under (at_redex match.0) m.rule.conditions

      are : AreConditionsAt sys t r cs
      are = record { rule = m.rule; match = match.0; matches = record { is_rule = m.is_rule; redex = m.part; stands = m.stands; matches = match.1 }; are = refl }

      go : Dec (DoConditionsFit cs) → HasJudgement (IsInfeasibilityJudged sys cs e) → HasJudgement (IsRedexJudged sys t r e)
      go (yes f) (o, h) = (o, (cs, are, inl (f, h)))
      go (no n) j = (Some tcap_large, (cs, are, inr (n, refl)))

  module _ (u v : Term) where
    chosen_matches : (r : RedexPlace) → IsRedex sys u v r → MatchesAt sys (chosen u v r.which) r.position r.rule
    chosen_matches r (inl (e, m)) = subst (λ n. MatchesAt sys (chosen u v n) r.position r.rule) (sym e) m
    chosen_matches r (inr (e, m)) = subst (λ n. MatchesAt sys (chosen u v n) r.position r.rule) (sym e) m

    abbrev Refuted : ℕ → List RedexPlace → List Redex → Type 0
    Refuted n rs es = HasAnswer (AreRefuted sys u v rs es) (AreNotRefuted sys u v n rs es)

    one_total : (n : ℕ) (r : RedexPlace) (rs : List RedexPlace) (e : Redex) (es : List Redex) → Dec (entry_place e ≡ r) → HasJudgement (IsRedexJudged sys (chosen u v r.which) r e.evidence)
        → Refuted (suc n) rs es → Refuted n (r ∷ rs) (e ∷ es)
    one_total n r rs e es (no d) j rest = inr (not_normal r.which r.position r.rule, inl (d, refl))
    one_total n r rs e es (yes q) (Some why, h) rest = inr (redex_fails n why, inr (inl (q, (why, h, refl))))
    one_total n r rs e es (yes q) (None, h) (inl s) = inl (q, h, s)
    one_total n r rs e es (yes q) (None, h) (inr (why, f)) = inr (why, inr (inr (q, h, f)))

    refuted_total : (n : ℕ) (rs : List RedexPlace) (es : List Redex) → ((r : RedexPlace) → IsAmong r rs → IsRedex sys u v r) → Refuted n rs es
    refuted_total n [] [] each = inl tt
    refuted_total n [] (e ∷ es) each = inr (redex_extra n, refl)
    refuted_total n (r ∷ rs) [] each = inr (not_normal r.which r.position r.rule, refl)
    refuted_total n (r ∷ rs) (e ∷ es) each =
        one_total n r rs e es (same_place (entry_place e) r) (redex_total (chosen u v r.which) r e.evidence (chosen_matches r (each r (inl refl))))
        (refuted_total (suc n) rs es (λ q l. each q (inr l)))

    abbrev Apart : Apartness → Type 0
    Apart a = HasAnswer (AreShownApart sys u v a) (AreNotShownApart sys u v a)

    normal_total : (es : List Redex) → Dec (u ≡ v) → (rs : List RedexPlace) × AreRedexes sys u v rs → Apart (by_normal_forms es)
    normal_total es (yes q) l = inr (same_term, inl (q, refl))
    normal_total es (no n) (rs, are) = go (refuted_total 1 rs es are.each)
      where
        go : Refuted 1 rs es → Apart (by_normal_forms es)
        go (inl s) = inl (n, (rs, are, s))
        go (inr (r, f)) = inr (r, inr (n, (rs, are, f)))

    rigid_total : ((o : Outcome) × IsPairOutcome sys kept u v o) ⊎ (IsCapLarge sys kept u ⊎ IsCapLarge sys kept v) → Apart by_rigid_caps
    rigid_total (inl (clash, h)) = inl h
    rigid_total (inl (unifier b, h)) = inr (caps_unify, inr ((b, h), refl))
    rigid_total (inl (too_large, h)) = inr (caps_large, inl (inr h, refl))
    rigid_total (inr large) = inr (caps_large, inl (inl large, refl))

    apart_total : (a : Apartness) → Apart a
    apart_total (by_normal_forms es) = normal_total es (same u v) (redexes_total sys u v)
    apart_total by_rigid_caps = rigid_total (two_caps kept u v)

  module _ (peak : Peak) where
    abbrev PeakAnswer : Type 0
    PeakAnswer = HasAnswer (IsValidPeak sys peak) (IsPeakRejected sys peak)

    at_ends : (u v : Term) → HasFileSymbols sys peak.start → LeadsTo sys peak u v → HasAnswer (AreShownApart sys u v peak.apart) (AreNotShownApart sys u v peak.apart) → PeakAnswer
    at_ends u v own ends h = go (below_decided sys.own u) (below_decided sys.own v) h
      where
        go : IsDecided (HasFileSymbols sys u) → IsDecided (HasFileSymbols sys v) → HasAnswer (AreShownApart sys u v peak.apart) (AreNotShownApart sys u v peak.apart) → PeakAnswer
        go (inr f) d h = inr (foreign 1, not_apart own u v (foreign 1) ends (inl (f, refl)))
        go (inl a) (inr f) h = inr (foreign 2, not_apart own u v (foreign 2) ends (inr (inl (a, f, refl))))
        go (inl a) (inl b) (inl h) = inl (record { start = own; u = u; v = v; ends = ends; apart = record { first = a; second = b; apart = h } })
        go (inl a) (inl b) (inr (r, f)) = inr (r, not_apart own u v r ends (inr (inr (a, b, f))))

    from_own : HasFileSymbols sys peak.start → PeakAnswer
    from_own own = first (derivation_total sys [] peak.start peak.first)
      where
        second : (u : Term) → Derives sys [] peak.start peak.first u
            → ((v : Term) × Derives sys [] peak.start peak.second v) ⊎ ((bad : BadStep) × IsFirstBad sys [] peak.start peak.second bad) → PeakAnswer
        second u h (inr (bad, f)) = inr (second_bad bad, second_fails own u bad h f)
        second u h (inl (v, k)) = at_ends u v own (record { first = h; second = k }) (apart_total u v peak.apart)

        first : ((u : Term) × Derives sys [] peak.start peak.first u) ⊎ ((bad : BadStep) × IsFirstBad sys [] peak.start peak.first bad) → PeakAnswer
        first (inr (bad, f)) = inr (first_bad bad, first_fails own bad f)
        first (inl (u, h)) = second u h (derivation_total sys [] peak.start peak.second)

    pub peak_total : PeakAnswer
    peak_total = go (below_decided sys.own peak.start)
      where
        go : IsDecided (HasFileSymbols sys peak.start) → PeakAnswer
        go (inl own) = from_own own
        go (inr f) = inr (foreign 0, foreign_start f)
