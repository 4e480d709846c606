-- Entries of a certificate have a tally.
use Rattle.std.proofs.Common.{inl, inr, List}
use Rattle.rewriting.specs.Prelude.{System, IsDeterministic}
use Rattle.unifier_run.specs.Overlaps.{Overlap, AreOverlaps}
use Rattle.interpretations.specs.Judgement.{good}
use Rattle.certificates.specs.Prelude.{PairEntry, ortho_certificate, quasi_certificate, Rejection}
use Rattle.interpretations.specs.Judgement.{Judgement}
use Rattle.valid_certificates.specs.Kinds.{Kind, ortho, quasi}
use Rattle.valid_certificates.specs.Entries.{DoSettle, DoNotSettle, pair_is_large, pairs_are_many, entry_fails}
use Rattle.valid_certificates.specs.Confluence.{IsInOrthoClasses, IsValidOrtho, IsOrthoRejected, not_left_linear, not_type3, not_oriented, not_right_stable, ortho_pairs_fail}
use Rattle.valid_certificates.specs.Confluence.{AreRightSidesIrreducible, IsValidQuasi, IsQuasiRejected, not_deterministic, side_is_reducible, measure_is_bad, unraveling_is_large}
use Rattle.valid_certificates.specs.Confluence.{quasi_pairs_fail}
use Rattle.valid_certificates.specs.Certificates.{IsMeasureJudged}
use Rattle.valid_certificates.proofs.EntriesTotal.{HasAnswer}
use Rattle.valid_certificates.proofs.Total.{every_certificate}
use Rattle.valid_certificates.proofs.OneCertificate.{measure_judged_once}
use Rattle.tallies.specs.Tally.{Tally, passed, failed, IsTally, whatever_they_are, one_by_one}
use Rattle.tallies.specs.Laws.{OrthoEntriesHaveOneTally, QuasiEntriesHaveOneTally}
use Rattle.tallies.proofs.Judged.{settled_passes, FailsOrPasses, not_settled_fails}
use Rattle.tallies.proofs.OneTally.{ortho_tally_once, quasi_tally_once}

-- where what is judged before the entries holds, a certificate is rejected for these; else for a reason for which any are
module _ (kind : Kind) (sys : System) (Before : Type 0) (IsRejected : List PairEntry → Rejection → Type 0)
    (rejected : Before → (es : List PairEntry) (r : Rejection) → DoNotSettle kind sys es r → IsRejected es r) (es : List PairEntry) where
  abbrev HasTally : Type 0
  HasTally = (t : Tally) × IsTally kind sys Before IsRejected es t

  settled_tally : Before → DoSettle kind sys es → HasTally
  settled_tally before (os, are, h) = (let p = settled_passes kind sys 0 os es h in (passed p.0, one_by_one os (passed p.0) before are p.1))

  listed_tally : (os : List Overlap) (r : Rejection) → Before → AreOverlaps sys os → FailsOrPasses kind sys 0 os es r → HasTally
  listed_tally os r before are (inl h) = (failed r, one_by_one os (failed r) before are h)
  listed_tally os r before are (inr (m, h)) = (passed m, one_by_one os (passed m) before are h)

  not_settled_tally : (r : Rejection) → Before → DoNotSettle kind sys es r → HasTally
  not_settled_tally r before (pair_is_large i p j large) = (failed r, whatever_they_are r (λ fs. rejected before fs r (pair_is_large i p j large)))
  not_settled_tally r before (pairs_are_many many) = (failed r, whatever_they_are r (λ fs. rejected before fs r (pairs_are_many many)))
  not_settled_tally r before (entry_fails os x are h) = listed_tally os x before are (not_settled_fails kind sys 0 os es x h)

  before_tally : (r : Rejection) → ((fs : List PairEntry) → IsRejected fs r) → HasTally
  before_tally r all = (failed r, whatever_they_are r all)

module _ (sys : System) where
  ortho_rejected : IsInOrthoClasses sys → (es : List PairEntry) (r : Rejection) → DoNotSettle ortho sys es r → IsOrthoRejected sys es r
  ortho_rejected all es r h = ortho_pairs_fail r all h

  module _ (es : List PairEntry) where
    abbrev OrthoTally : Type 0
    OrthoTally = HasTally ortho sys (IsInOrthoClasses sys) (IsOrthoRejected sys) ortho_rejected es

    ortho_before : (r : Rejection) → ((fs : List PairEntry) → IsOrthoRejected sys fs r) → OrthoTally
    ortho_before = before_tally ortho sys (IsInOrthoClasses sys) (IsOrthoRejected sys) ortho_rejected es

    ortho_tally : HasAnswer (IsValidOrtho sys es) (IsOrthoRejected sys es) → OrthoTally
    ortho_tally (inl v) = settled_tally ortho sys (IsInOrthoClasses sys) (IsOrthoRejected sys) ortho_rejected es v.classes v.pairs
    ortho_tally (inr (r, not_left_linear blame h)) = ortho_before _ (λ fs. not_left_linear blame h)
    ortho_tally (inr (r, not_type3 blame a h)) = ortho_before _ (λ fs. not_type3 blame a h)
    ortho_tally (inr (r, not_oriented blame a b h)) = ortho_before _ (λ fs. not_oriented blame a b h)
    ortho_tally (inr (r, not_right_stable blame a b c h)) = ortho_before _ (λ fs. not_right_stable blame a b c h)
    ortho_tally (inr (r, ortho_pairs_fail x all h)) = not_settled_tally ortho sys (IsInOrthoClasses sys) (IsOrthoRejected sys) ortho_rejected es x all h

module _ (Is : Judgement → Type 0) (sys : System) where
  abbrev BeforeEntries : Type 0
  BeforeEntries = IsDeterministic sys × AreRightSidesIrreducible sys × Is good

  quasi_rejected : BeforeEntries → (es : List PairEntry) (r : Rejection) → DoNotSettle quasi sys es r → IsQuasiRejected Is sys es r
  quasi_rejected all es r h = quasi_pairs_fail r all.0 all.1 all.2 h

  module _ (es : List PairEntry) where
    abbrev QuasiTally : Type 0
    QuasiTally = HasTally quasi sys BeforeEntries (IsQuasiRejected Is sys) quasi_rejected es

    quasi_before : (r : Rejection) → ((fs : List PairEntry) → IsQuasiRejected Is sys fs r) → QuasiTally
    quasi_before = before_tally quasi sys BeforeEntries (IsQuasiRejected Is sys) quasi_rejected es

    quasi_tally : HasAnswer (IsValidQuasi Is sys es) (IsQuasiRejected Is sys es) → QuasiTally
    quasi_tally (inl v) = settled_tally quasi sys BeforeEntries (IsQuasiRejected Is sys) quasi_rejected es (v.deterministic, v.irreducible, v.measure) v.pairs
    quasi_tally (inr (r, not_deterministic blame h)) = quasi_before _ (λ fs. not_deterministic blame h)
    quasi_tally (inr (r, side_is_reducible i k a h)) = quasi_before _ (λ fs. side_is_reducible i k a h)
    quasi_tally (inr (r, measure_is_bad why a b h)) = quasi_before _ (λ fs. measure_is_bad why a b h)
    quasi_tally (inr (r, unraveling_is_large i a b h)) = quasi_before _ (λ fs. unraveling_is_large i a b h)
    quasi_tally (inr (r, quasi_pairs_fail x a b g h)) = not_settled_tally quasi sys BeforeEntries (IsQuasiRejected Is sys) quasi_rejected es x (a, b, g) h

pub ortho_one_tally : OrthoEntriesHaveOneTally
ortho_one_tally sys = record { one = ortho_tally_once sys; some = λ es. ortho_tally sys es (every_certificate sys (ortho_certificate es)) }

pub quasi_one_tally : QuasiEntriesHaveOneTally
quasi_one_tally sys m =
    record {
      one = quasi_tally_once sys (IsMeasureJudged sys m) (measure_judged_once sys m);
      some = λ es. quasi_tally (IsMeasureJudged sys m) sys es (every_certificate sys (quasi_certificate m es));
    }
