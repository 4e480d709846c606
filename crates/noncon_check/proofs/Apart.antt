-- From the redexes of both ends to the answer.
use Rattle.std.proofs.Common.{◌≡◌, ◌≢◌, inl, inr, ℕ, zero, suc, ◌+◌, ◌<◌, ◌≤◌, List, [], ◌∷◌, ◌++◌, length, drop, slice_get, Option, None, Some, Result, Ok, Err, OnOk, refl, sym}
use Rattle.std.proofs.Common.{ap, ap₂, ◌∙◌, subst, arith}
use Rattle.std.proofs.lemmas.Option.{slice_get_within, get_or_from_slice_get}
use Rattle.std.proofs.lemmas.List.{drop_more, drop_all}
use Rattle.rewriting.specs.Prelude.{IsOver, IsSystem, IsWellFormed, IsAmong, AreDistinct}
use Rattle.rewriting.proofs.Common.{Term, System, apply}
use Rattle.rewriting.proofs.Laws.{well_formed}
use Rattle.certificates.specs.Prelude.{Apartness, Redex, Peak, by_normal_forms, InfeasibilityEvidence, Derives, EvidenceReason, Rejection, first_bad, second_bad, redex_extra}
use Rattle.cert_model.specs.ReasonView.{rejected_view}
use Rattle.renumbering.specs.Rows.{naming}
use Rattle.validity.specs.declared.CheckError.{CheckError}
use Rattle.validity.specs.declared.CheckError.TheVariants.{Rejected, NoMemory}
use Rattle.valid_certificates.specs.Peaks.{RedexPlace, chosen, IsRedexJudged, AreRefuted, AreNotRefuted, IsMissed, AreNotShownApart, LeadsTo, HasFileSymbols, IsPeakRejected}
use Rattle.valid_certificates.specs.Peaks.{foreign_start, first_fails, second_fails, not_apart}
use Rattle.valid_certificates.specs.Laws.{ReachesApart, ValidPeaksReachApart}
use Rattle.validity.specs.Answers.{PeakAnswers}
use Rattle.redex_conditions.specs.Judged.{IsJudgedAt}
use Rattle.redex_conditions.specs.Redexes.{redexes, AreRedexesOf}
use Rattle.noncon_check.specs.Walks.{Judgement, IsEntry, IsAbsent, Pass, Fail, PlacesAnswer}
use Rattle.noncon_check.specs.Ends.{DerivesAnswers, SymbolAnswers, EndsAnswers, ApartAnswers, AreJudgedFrom, EndAnswers}
use Rattle.redex_conditions.proofs.Numbers.{AreBelow, redex_judged, same_redexes}
use Rattle.redex_conditions.proofs.Places.{redexes_are}
use Rattle.noncon_check.proofs.Walks.{pass_append, pass_fail, fail_append, pass_to, fail_to, answers_to}
use Rattle.redex_conditions.proofs.Ends.{both}

-- the redexes of an end, judged by those of the numbered end
module _ (sys : System) (good : IsSystem sys) (row : List ℕ) (own : ℕ) (long : own ≡ length row) (distinct : AreDistinct row) (t n : Term) (is : t ≡ apply (naming row) n)
    (below : AreBelow (length row) n) where
  judged_from : (w at : ℕ) (es : List Redex) (a : Result ℕ CheckError) → PlacesAnswer (IsJudgedAt sys own n) es at (redexes sys w n) a → AreJudgedFrom sys w t es at a
  judged_from w at es a h =
      record {
        places = redexes sys w n;
        are = same_redexes row distinct t n is below sys w (redexes sys w n) (redexes_are sys w n (well_formed sys good));
        answer = answers_to (IsJudgedAt sys (length row) n) (IsRedexJudged sys t) es at (redexes sys w n) a (λ r l e o j. redex_judged row distinct t n is below sys r e o j)
            (subst (λ k. PlacesAnswer (IsJudgedAt sys k n) es at (redexes sys w n) a) long h);
      }

  pub end_answers : (w at : ℕ) (es : List Redex) (a : Result ℕ CheckError) → PlacesAnswer (IsJudgedAt sys own n) es at (redexes sys w n) a → EndAnswers sys w t es at a
  end_answers w at es (Ok after) h = judged_from w at es (Ok after) h
  end_answers w at es (Err (Rejected reason)) h = judged_from w at es (Err (Rejected reason)) h
  end_answers w at es (Err NoMemory) h = tt

-- entries from a number on
drop_some : (es : List Redex) (at : ℕ) (e : Redex) → slice_get es at ≡ Some e → drop at es ≡ e ∷ drop (suc at) es
drop_some es at e h =
    let one : at + 1 ≡ suc at = omega arith in
    drop_more es at e (slice_get_within es at e h) ∙ ap₂ (λ (x : Redex) (xs : List Redex). x ∷ xs) (get_or_from_slice_get es at e e h) (ap (λ k. drop k es) one)

none_past : (es : List Redex) (at : ℕ) → slice_get es at ≡ None → length es ≤ at
none_past [] at e = omega arith
none_past (d ∷ es) zero e = cc
none_past (d ∷ es) (suc at) e = let h = none_past es at e in omega (arith, h)

module _ (sys : System) (u v : Term) where
  -- what is judged at a place of one of both ends
  abbrev J : Judgement
  J r e o = IsRedexJudged sys (chosen u v r.which) r e o

  first_own : (rs : List RedexPlace) → AreRedexesOf sys 1 u rs → (r : RedexPlace) → IsAmong r rs → (e : InfeasibilityEvidence) (o : Option EvidenceReason) → IsRedexJudged sys u r e o → J r e o
  first_own rs a r l e o h = subst (λ k. IsRedexJudged sys (chosen u v k) r e o) (sym (a.each r l).0) h

  second_own : (ss : List RedexPlace) → AreRedexesOf sys 2 v ss → (r : RedexPlace) → IsAmong r ss → (e : InfeasibilityEvidence) (o : Option EvidenceReason) → IsRedexJudged sys v r e o → J r e o
  second_own ss b r l e o h = subst (λ k. IsRedexJudged sys (chosen u v k) r e o) (sym (b.each r l).0) h

  refuted_step : (es : List Redex) (at : ℕ) (r : RedexPlace) (rs : List RedexPlace) → IsEntry J es at r None → AreRefuted sys u v rs (drop (suc at) es) → AreRefuted sys u v (r ∷ rs) (drop at es)
  refuted_step es at r rs h k = subst (AreRefuted sys u v (r ∷ rs)) (sym (drop_some es at h.entry h.stands)) (h.place, h.judged, k)

  pub all_refuted : (es : List Redex) (at : ℕ) (rs : List RedexPlace) (after : ℕ) → Pass J es at rs after → length es ≤ after → AreRefuted sys u v rs (drop at es)
  all_refuted es at [] after h long = subst (AreRefuted sys u v []) (sym (drop_all at es (omega (arith, h, long)))) tt
  all_refuted es at (r ∷ rs) after (e, h) long = refuted_step es at r rs e (all_refuted es (suc at) rs after h long)

  next_fails : (es : List Redex) (at : ℕ) (r : RedexPlace) (rs : List RedexPlace) (reason : Rejection) → IsEntry J es at r None → AreNotRefuted sys u v (suc (suc at)) rs (drop (suc at) es) reason
      → AreNotRefuted sys u v (suc at) (r ∷ rs) (drop at es) reason
  next_fails es at r rs reason h k = subst (λ z. AreNotRefuted sys u v (suc at) (r ∷ rs) z reason) (sym (drop_some es at h.entry h.stands)) (inr (inr (h.place, h.judged, k)))

  pub one_extra : (es : List Redex) (at : ℕ) (rs : List RedexPlace) (after : ℕ) → Pass J es at rs after → after < length es → AreNotRefuted sys u v (suc at) rs (drop at es) (redex_extra (suc after))
  one_extra es at [] after h less = go (slice_get es at) refl
    where
      go : (o : Option Redex) → slice_get es at ≡ o → AreNotRefuted sys u v (suc at) [] (drop at es) (redex_extra (suc after))
      go None e = absurd (let high = none_past es at e in omega (arith, high, h, less))
      go (Some d) e = subst (λ z. AreNotRefuted sys u v (suc at) [] z (redex_extra (suc after))) (sym (drop_some es at d e)) (ap (λ n. redex_extra (suc n)) (sym h))
  one_extra es at (r ∷ rs) after (e, h) less = next_fails es at r rs (redex_extra (suc after)) e (one_extra es (suc at) rs after h less)

  missed : (es : List Redex) (at : ℕ) (r : RedexPlace) (rs : List RedexPlace) (reason : Rejection) → IsAbsent es at r → IsMissed r reason → (o : Option Redex) → slice_get es at ≡ o
      → AreNotRefuted sys u v (suc at) (r ∷ rs) (drop at es) reason
  missed es at r rs reason none h None e = subst (λ z. AreNotRefuted sys u v (suc at) (r ∷ rs) z reason) (sym (drop_all at es (none_past es at e))) h
  missed es at r rs reason none h (Some d) e = subst (λ z. AreNotRefuted sys u v (suc at) (r ∷ rs) z reason) (sym (drop_some es at d e)) (inl (none d e, h))

  pub one_fails : (es : List Redex) (at : ℕ) (rs : List RedexPlace) (reason : Rejection) → Fail J es at rs reason → AreNotRefuted sys u v (suc at) rs (drop at es) reason
  one_fails es at [] reason h = absurd h
  one_fails es at (r ∷ rs) reason (inl (none, h)) = missed es at r rs reason none h (slice_get es at) refl
  one_fails es at (r ∷ rs) reason (inr (inl (why, h, is))) =
      subst (λ z. AreNotRefuted sys u v (suc at) (r ∷ rs) z reason) (sym (drop_some es at h.entry h.stands)) (inr (inl (h.place, (why, h.judged, is))))
  one_fails es at (r ∷ rs) reason (inr (inr (h, k))) = next_fails es at r rs reason h (one_fails es (suc at) rs reason k)

  module _ (es : List Redex) (differ : u ≢ v) where
    -- the first end's entries fail
    pub first_fails_so : IsWellFormed sys → (e : CheckError) → EndAnswers sys 1 u es 0 (Err e) → ApartAnswers sys u v (by_normal_forms es) (Err e)
    first_fails_so good NoMemory h = tt
    first_fails_so good (Rejected reason) h =
        let ss = redexes sys 2 v in
        inr (
          differ,
          (
            h.places ++ ss,
            both sys u v h.places ss h.are (redexes_are sys 2 v good),
            one_fails es 0 (h.places ++ ss) (rejected_view reason)
                (fail_append J es 0 h.places ss (rejected_view reason) (fail_to (IsRedexJudged sys u) J es 0 h.places (rejected_view reason) (first_own h.places h.are) h.answer)),
          ),
        )

    module _ (mid : ℕ) (a : EndAnswers sys 1 u es 0 (Ok mid)) where
      first_passes : Pass J es 0 a.places mid
      first_passes = pass_to (IsRedexJudged sys u) J es 0 a.places mid (first_own a.places a.are) a.answer

      pub second_fails_so : (e : CheckError) → EndAnswers sys 2 v es mid (Err e) → ApartAnswers sys u v (by_normal_forms es) (Err e)
      second_fails_so NoMemory h = tt
      second_fails_so (Rejected reason) h =
          inr (
            differ,
            (
              a.places ++ h.places,
              both sys u v a.places h.places a.are h.are,
              one_fails es 0 (a.places ++ h.places) (rejected_view reason)
                  (pass_fail J es 0 a.places mid h.places (rejected_view reason) first_passes
                  (fail_to (IsRedexJudged sys v) J es mid h.places (rejected_view reason) (second_own h.places h.are) h.answer)),
            ),
          )

      module _ (after : ℕ) (b : EndAnswers sys 2 v es mid (Ok after)) where
        all_pass : Pass J es 0 (a.places ++ b.places) after
        all_pass = pass_append J es 0 a.places mid b.places after first_passes (pass_to (IsRedexJudged sys v) J es mid b.places after (second_own b.places b.are) b.answer)

        pub extra : (n : ℕ) → n ≡ suc after → after < length es → AreNotShownApart sys u v (by_normal_forms es) (redex_extra n)
        extra n e less = subst (λ k. AreNotShownApart sys u v (by_normal_forms es) (redex_extra k)) (sym e)
            (inr (differ, (a.places ++ b.places, both sys u v a.places b.places a.are b.are, one_extra es 0 (a.places ++ b.places) after all_pass less)))

        pub shown : length es ≤ after → ApartAnswers sys u v (by_normal_forms es) (Ok tt)
        shown long = (differ, (a.places ++ b.places, both sys u v a.places b.places a.are b.are, all_refuted es 0 (a.places ++ b.places) after all_pass long))

-- the answer for a peak
pub start_rejected : (sys : System) (peak : Peak) (e : CheckError) → SymbolAnswers sys 0 peak.start (Err e) → PeakAnswers sys peak (Err e)
start_rejected sys peak (Rejected reason) h = subst (IsPeakRejected sys peak) (sym h.1) (foreign_start h.0)
start_rejected sys peak NoMemory h = tt

pub first_foreign : (sys : System) (u v : Term) (a : Apartness) (e : CheckError) → SymbolAnswers sys 1 u (Err e) → EndsAnswers sys u v a (Err e)
first_foreign sys u v a (Rejected reason) h = inl h
first_foreign sys u v a NoMemory h = tt

pub second_foreign : (sys : System) (u v : Term) (a : Apartness) (e : CheckError) → HasFileSymbols sys u → SymbolAnswers sys 2 v (Err e) → EndsAnswers sys u v a (Err e)
second_foreign sys u v a (Rejected reason) own h = inr (inl (own, h.0, h.1))
second_foreign sys u v a NoMemory own h = tt

pub apart_judged : (sys : System) (u v : Term) (a : Apartness) (r : Result (Unit {0}) CheckError) → HasFileSymbols sys u → HasFileSymbols sys v → ApartAnswers sys u v a r
    → EndsAnswers sys u v a r
apart_judged sys u v a (Ok _) own own' h = record { first = own; second = own'; apart = h }
apart_judged sys u v a (Err (Rejected reason)) own own' h = inr (inr (own, own', h))
apart_judged sys u v a (Err NoMemory) own own' h = tt

pub first_rejected : (sys : System) (peak : Peak) (e : CheckError) → HasFileSymbols sys peak.start → DerivesAnswers first_bad sys peak.start peak.first (Err e) → PeakAnswers sys peak (Err e)
first_rejected sys peak (Rejected reason) own (bad, is, h) = subst (IsPeakRejected sys peak) (sym is) (first_fails own bad h)
first_rejected sys peak NoMemory own h = tt

pub second_rejected : (sys : System) (peak : Peak) (u : Term) (e : CheckError) → HasFileSymbols sys peak.start → Derives sys [] peak.start peak.first u
    → DerivesAnswers second_bad sys peak.start peak.second (Err e) → PeakAnswers sys peak (Err e)
second_rejected sys peak u (Rejected reason) own first (bad, is, h) = subst (IsPeakRejected sys peak) (sym is) (second_fails own u bad first h)
second_rejected sys peak u NoMemory own first h = tt

pub ends_judged : (sys : System) (peak : Peak) (u v : Term) (a : Result (Unit {0}) CheckError) → HasFileSymbols sys peak.start → LeadsTo sys peak u v → EndsAnswers sys u v peak.apart a
    → PeakAnswers sys peak a
ends_judged sys peak u v (Ok _) own ends h = record { start = own; u = u; v = v; ends = ends; apart = h }
ends_judged sys peak u v (Err (Rejected reason)) own ends h = not_apart own u v (rejected_view reason) ends h
ends_judged sys peak u v (Err NoMemory) own ends h = tt

pub peak_sound : ValidPeaksReachApart → (sys : System) (peak : Peak) → IsSystem sys → IsOver sys.arities peak.start → (a : Result (Unit {0}) CheckError) → PeakAnswers sys peak a
    → OnOk a (ReachesApart sys peak)
peak_sound law sys peak good over (Ok _) h = law sys peak (well_formed sys good) over h
peak_sound law sys peak good over (Err e) h = tt
