-- Entries of a certificate have one tally at most.
use Rattle.std.proofs.Common.{◌≡◌, ◌⊎◌, inl, inr, ℕ, List, [], ◌∷◌, None, refl, sym, ap, ◌∙◌, subst}
use Rattle.rewriting.specs.Prelude.{System, IsDeterministic}
use Rattle.rewriting.proofs.Once.{IsOnce, test_once, with_once, once_within}
use Rattle.unifier_run.specs.Overlaps.{Overlap, AreOverlaps}
use Rattle.interpretations.specs.Judgement.{Judgement, good, not_good, unraveling_large}
use Rattle.certificates.specs.Prelude.{no_steps, PairEvidence, trivial_pair, joined_pair, PairEntry, linear_measure, ortho_certificate, quasi_certificate, left_linear, type3}
use Rattle.certificates.specs.Prelude.{extended_oriented, right_stable, deterministic, Blame, Rejection, class_fails, not_irreducible, measure_fails, unraveling_large as large_unraveling}
use Rattle.certificates.specs.Prelude.{pair_missing}
use Rattle.valid_certificates.specs.Kinds.{Kind, ortho, quasi}
use Rattle.valid_certificates.specs.PairEvidence.{IsPairJudged, IsAllowed}
use Rattle.valid_certificates.specs.Entries.{AreNotSettled, DoNotSettle}
use Rattle.valid_certificates.specs.Confluence.{IsInOrthoClasses, IsBlameOf, IsOrthoRejected, not_left_linear, not_type3, not_oriented, not_right_stable, ortho_pairs_fail}
use Rattle.valid_certificates.specs.Confluence.{AreRightSidesIrreducible, IsFirstReducible, IsQuasiRejected, not_deterministic, side_is_reducible, measure_is_bad}
use Rattle.valid_certificates.specs.Confluence.{unraveling_is_large, quasi_pairs_fail}
use Rattle.valid_certificates.specs.Certificates.{IsMeasureJudged}
use Rattle.valid_certificates.proofs.OneBlame.{blame_excludes}
use Rattle.valid_certificates.proofs.OneCertificate.{entries_once, certificate_answer}
use Rattle.valid_certificates.proofs.OneOverlaps.{overlaps_once}
use Rattle.tallies.specs.Tally.{Tally, failed, AreTallied, IsTally, whatever_they_are, one_by_one, IsOrthoTally, IsQuasiTally}
use Rattle.tallies.proofs.Judged.{tallied_once, listed_not_settled}

-- evidence that a certificate of the kind may not give
foreign : Kind → PairEvidence
foreign ortho = joined_pair no_steps no_steps
foreign quasi = trivial_pair

foreign_not_allowed : (kind : Kind) → IsAllowed kind (foreign kind) → ⊥
unfolding foreign
foreign_not_allowed ortho h = h
foreign_not_allowed quasi h = h

foreign_never_good : (kind : Kind) (sys : System) (o : Overlap) → IsPairJudged kind sys o (foreign kind) None → ⊥
foreign_never_good kind sys o (inl h) = foreign_not_allowed kind h.0
foreign_never_good kind sys o (inr h) = (let clash = h.1 in cc)

-- the entry for an overlap with that evidence
abbrev foreign_entry : Kind → Overlap → PairEntry
foreign_entry kind o = record { inner = o.inner; position = o.position; outer = o.outer; evidence = foreign kind }

module _ (kind : Kind) (sys : System) where
  -- no reason is that of all lists of entries
  differ : (o : Overlap) (os : List Overlap) (r : Rejection) → r ≡ pair_missing o.inner o.position o.outer → AreNotSettled kind sys 1 (o ∷ os) (foreign_entry kind o ∷ []) r → ⊥
  differ o os r missing (inl (other, h)) = other refl
  differ o os r missing (inr (inl (same, (why, bad, h)))) = cc
  differ o os r missing (inr (inr (same, j, h))) = foreign_never_good kind sys o j

  pub never_all : (os : List Overlap) → AreOverlaps sys os → (r : Rejection) → ((es : List PairEntry) → DoNotSettle kind sys es r) → ⊥
  never_all [] are r all = listed_not_settled kind sys [] are [] r (all [])
  never_all (o ∷ os) are r all =
      let es = foreign_entry kind o ∷ [] in
      differ o os r (listed_not_settled kind sys (o ∷ os) are [] r (all [])) (listed_not_settled kind sys (o ∷ os) are es r (all es))

-- where certificates without entries are rejected for one reason, and where what is judged before the entries holds, a
-- certificate is rejected for these alone
module _ (kind : Kind) (sys : System) (Before : Type 0) (IsRejected : List PairEntry → Rejection → Type 0) (once : IsOnce Rejection (IsRejected []))
    (by_entries : Before → (es : List PairEntry) (r : Rejection) → IsRejected es r → DoNotSettle kind sys es r) where
  one_tally : (es : List PairEntry) → IsOnce Tally (IsTally kind sys Before IsRejected es)
  one_tally es t u (whatever_they_are r all) (whatever_they_are s every) = ap failed (once r s (all []) (every []))
  one_tally es t u (whatever_they_are r all) (one_by_one os x before are h) = absurd (never_all kind sys os are r (λ fs. by_entries before fs r (all fs)))
  one_tally es t u (one_by_one os x before are h) (whatever_they_are r all) = absurd (never_all kind sys os are r (λ fs. by_entries before fs r (all fs)))
  one_tally es t u (one_by_one os x before are h) (one_by_one qs y all every k) =
      tallied_once kind sys 0 qs es x y (subst (λ z. AreTallied kind sys 0 z es x) (overlaps_once sys os qs are every) h) k

module _ (sys : System) where
  ortho_by_entries : IsInOrthoClasses sys → (es : List PairEntry) (r : Rejection) → IsOrthoRejected sys es r → DoNotSettle ortho sys es r
  ortho_by_entries all es r (not_left_linear blame h) = absurd (blame_excludes sys left_linear blame h all.left_linear)
  ortho_by_entries all es r (not_type3 blame a h) = absurd (blame_excludes sys type3 blame h all.type3)
  ortho_by_entries all es r (not_oriented blame a b h) = absurd (blame_excludes sys extended_oriented blame h all.oriented)
  ortho_by_entries all es r (not_right_stable blame a b c h) = absurd (blame_excludes sys right_stable blame h all.right_stable)
  ortho_by_entries all es r (ortho_pairs_fail x _ h) = h

  pub ortho_tally_once : (es : List PairEntry) → IsOnce Tally (IsOrthoTally sys es)
  ortho_tally_once = one_tally ortho sys (IsInOrthoClasses sys) (IsOrthoRejected sys) (certificate_answer sys (ortho_certificate [])).one_reason ortho_by_entries

  -- of the rules of a system with a measure there is one reason at most, whatever the measure
  abbrev AreRulesGood : Type 0
  AreRulesGood = IsDeterministic sys × AreRightSidesIrreducible sys

  abbrev RulesFail : Rejection → Type 0
  RulesFail r =
      ((blame : Blame) × IsBlameOf sys deterministic blame × (r ≡ class_fails blame))
      ⊎ ((i : ℕ) × (k : ℕ) × IsDeterministic sys × IsFirstReducible sys i k × (r ≡ not_irreducible i k))

  rules_or_not : (r : Rejection) → RulesFail r → AreRulesGood → ⊥
  rules_or_not r (inl (blame, h, _)) all = blame_excludes sys deterministic blame h all.0
  rules_or_not r (inr (i, k, a, h, _)) all = h.fails (all.1 i h.rule h.place h.condition h.is_rule h.is_condition)

  abbrev NoMeasure : Rejection → Type 0
  NoMeasure r = IsQuasiRejected (IsMeasureJudged sys (linear_measure [])) sys [] r

  rules_rejected : (r : Rejection) → RulesFail r → NoMeasure r
  rules_rejected r (inl (blame, h, e)) = subst NoMeasure (sym e) (not_deterministic blame h)
  rules_rejected r (inr (i, k, a, h, e)) = subst NoMeasure (sym e) (side_is_reducible i k a h)

  rules_once : IsOnce Rejection RulesFail
  rules_once = once_within Rejection RulesFail NoMeasure rules_rejected (certificate_answer sys (quasi_certificate (linear_measure []) [])).one_reason

  -- with a judgement of the measure, where the rules are good, the reason why a certificate without entries is rejected
  abbrev Told : Judgement → Rejection → Type 0
  Told good r = DoNotSettle quasi sys [] r
  Told (not_good why) r = r ≡ measure_fails why
  Told (unraveling_large i) r = r ≡ large_unraveling i

  told_once : (j : Judgement) → IsOnce Rejection (Told j)
  told_once good r s a b = entries_once quasi sys [] r s a b
  told_once (not_good why) r s a b = a ∙ sym b
  told_once (unraveling_large i) r s a b = a ∙ sym b

  module _ (Is : Judgement → Type 0) (once : IsOnce Judgement Is) where
    abbrev IsTold : Rejection → Type 0
    IsTold r = (j : Judgement) × Is j × Told j r

    quasi_cases : (r : Rejection) → IsQuasiRejected Is sys [] r → RulesFail r ⊎ (AreRulesGood × IsTold r)
    quasi_cases r (not_deterministic blame h) = inl (inl (blame, h, refl))
    quasi_cases r (side_is_reducible i k a h) = inl (inr (i, k, a, h, refl))
    quasi_cases r (measure_is_bad why a b h) = inr ((a, b), (not_good why, h, refl))
    quasi_cases r (unraveling_is_large i a b h) = inr ((a, b), (unraveling_large i, h, refl))
    quasi_cases r (quasi_pairs_fail x a b g h) = inr ((a, b), (good, g, h))

    quasi_once : IsOnce Rejection (IsQuasiRejected Is sys [])
    quasi_once =
        once_within Rejection (IsQuasiRejected Is sys []) (λ r. RulesFail r ⊎ (AreRulesGood × IsTold r)) quasi_cases
        (test_once Rejection AreRulesGood RulesFail IsTold rules_or_not rules_once (with_once Rejection Judgement Is Told once told_once))

    abbrev BeforeEntries : Type 0
    BeforeEntries = IsDeterministic sys × AreRightSidesIrreducible sys × Is good

    quasi_by_entries : BeforeEntries → (es : List PairEntry) (r : Rejection) → IsQuasiRejected Is sys es r → DoNotSettle quasi sys es r
    quasi_by_entries all es r (not_deterministic blame h) = absurd (rules_or_not _ (inl (blame, h, refl)) (all.0, all.1))
    quasi_by_entries all es r (side_is_reducible i k a h) = absurd (rules_or_not _ (inr (i, k, a, h, refl)) (all.0, all.1))
    quasi_by_entries all es r (measure_is_bad why a b h) = (let same = once (not_good why) good h all.2 in cc)
    quasi_by_entries all es r (unraveling_is_large i a b h) = (let same = once (unraveling_large i) good h all.2 in cc)
    quasi_by_entries all es r (quasi_pairs_fail x a b g h) = h

    pub quasi_tally_once : (es : List PairEntry) → IsOnce Tally (IsQuasiTally Is sys es)
    quasi_tally_once = one_tally quasi sys BeforeEntries (IsQuasiRejected Is sys) quasi_once quasi_by_entries
