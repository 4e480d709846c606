-- Where a run over entries stands, and what an entry makes of it.
use Rattle.std.proofs.Common.{ℕ, ◌≡◌, ◌≢◌, ◌+◌, ◌≤◌, inl, inr, refl, true, false, List, [], ◌∷◌, ◌++◌, length, Option, None, Some, Ok, Err, is_some, sym, ap, ◌∙◌, subst, subst₂}
use Rattle.std.proofs.Common.{arith, append_assoc, add-one}
use Rattle.std.proofs.lemmas.List.{length-append}
use Rattle.rewriting.specs.Prelude.{IsAmong, System}
use Rattle.rewriting.proofs.Lists.{among_middle}
use Rattle.unifier_run.specs.Overlaps as math
use Rattle.unifier_run.specs.Overlaps.{triple, IsOverlapOf, AreOverlaps}
use Rattle.certificates.specs.Prelude.{PairEntry, EvidenceReason, Rejection, pair_missing, pair_extra, evidence_fails}
use Rattle.cert_model.specs.ReasonView.{rejected_view}
use Rattle.cert_model.specs.declared.reasons.Rejected as reasons
use Rattle.critical_pairs.specs.Offers.{Search, search_of, DoesStay, OfferAnswers}
use Rattle.critical_pairs.specs.Answers.{OverlapsAnswers}
use Rattle.critical_pairs.specs.View.{overlap_view}
use Rattle.critical_pairs.specs.declared.Overlap.{Overlap}
use Rattle.critical_pairs.specs.declared.OverlapError.{OverlapError}
use Rattle.critical_pairs.specs.declared.OverlapError.TheVariants.{PairTooLarge, TooManyPairs, NoMemory as no_memory}
use Rattle.valid_certificates.specs.Kinds.{Kind}
use Rattle.valid_certificates.specs.Entries.{triple_of, DoSettle, DoNotSettle, pair_is_large, pairs_are_many}
use Rattle.valid_certificates.specs.PairEvidence.{IsPairJudged}
use Rattle.valid_certificates.proofs.OneOverlaps.{overlaps_once}
use Rattle.validity.specs.declared.CheckError.{CheckError}
use Rattle.validity.specs.declared.CheckError.TheVariants.{Rejected, NoMemory}
use Rattle.tallies.specs.Tally.{Tally, passed, failed, AreTallied}
use Rattle.tallies.specs.Runs.{PairRun}
use Rattle.tallies.proofs.Taking.{failure_stays, extra_taken, other_taken, bad_taken, good_taken, do_not_settle, do_settle, do_miss}
use Rattle.pair_check.specs.Runs.{StartAnswers, HasTaken, DoesTake}
use Rattle.pair_check.specs.Steps.{RefusedAnswers, HasList, IsNextOf, DoesSettleNext, DoesFailNext}
use Rattle.pair_check.specs.Underway.{AreAll}
use Rattle.validity.specs.KindView.{kind_view}
use Rattle.pair_check.specs.declared.run.PairRun.TheInside.{Inside}
use Rattle.pair_check.specs.RunView.{StandsBefore, tally_view, run_view, IsHeld}
use Rattle.pair_check.proofs.Running.{begins, all_of, goes_on, ended, stays}

-- why the overlaps have no list is why entries of any kind do not settle them
pub refused_at_start : (kind : Kind) (sys : System) (e : OverlapError) (r : CheckError) → OverlapsAnswers sys (Err e) → RefusedAnswers e r → StartAnswers kind sys (Err r)
refused_at_start kind sys (PairTooLarge i p j) (Rejected reason) h k = λ es. subst (DoNotSettle kind sys es) (sym k) (pair_is_large i p.items j h)
refused_at_start kind sys TooManyPairs (Rejected reason) h k = λ es. subst (DoNotSettle kind sys es) (sym k) (pairs_are_many h)
refused_at_start kind sys no_memory (Rejected reason) h k = absurd k
refused_at_start kind sys e NoMemory h k = tt

-- before the first entry
pub stands_first : (sys : System) (t : Search) (os : List math.Overlap) → AreAll sys os → t.system ≡ sys → (next : Option Overlap)
    → OfferAnswers (search_of sys) t (Ok next) → StandsBefore sys t 0 next
stands_first sys t os h e (Some o) k = (let (rest, under) = goes_on sys (search_of sys) [] os (begins sys os h) t (overlap_view o) e k in ([], rest, refl, under))
stands_first sys t os h e None k = ([], refl, ended sys (search_of sys) [] os (begins sys os h) t k)

module _ (sys : System) (s : Search) (n : ℕ) (o : Overlap) (h : StandsBefore sys s n (Some o)) where
  pub list_there : HasList s
  list_there = (sys, h.0 ++ overlap_view o ∷ [], h.1, h.3)

  -- all overlaps: those behind, the next one and the others
  split : (os : List math.Overlap) → AreOverlaps sys os → os ≡ h.0 ++ overlap_view o ∷ h.1
  split os are = overlaps_once sys os ((h.0 ++ overlap_view o ∷ []) ++ h.1) are (all_of sys s (h.0 ++ overlap_view o ∷ []) h.1 h.3) ∙ append_assoc h.0 (overlap_view o ∷ []) h.1

  pub next_is_overlap : IsOverlapOf sys (overlap_view o)
  next_is_overlap =
      let all = all_of sys s (h.0 ++ overlap_view o ∷ []) h.1 h.3 in
      (all.are.each (overlap_view o) (subst (IsAmong (overlap_view o)) (sym (append_assoc h.0 (overlap_view o ∷ []) h.1)) (among_middle (overlap_view o) h.0 h.1))).0

  -- one entry further
  pub stands_next : (t : Search) → t.system ≡ s.system → (next : Option Overlap) → OfferAnswers s t (Ok next) → StandsBefore sys t (n + 1) next
  stands_next t e (Some q) k =
      let (rest, under) = goes_on sys s (h.0 ++ overlap_view o ∷ []) h.1 h.3 t (overlap_view q) e k in
      (h.0 ++ overlap_view o ∷ [], rest, longer, under)
    where
      longer : length (h.0 ++ overlap_view o ∷ []) ≡ n + 1
      longer = (let long = length-append h.0 (overlap_view o ∷ []) in let behind = h.2 in omega (arith, long, behind))
  stands_next t e None k = (h.0 ++ overlap_view o ∷ [], longer, ended sys s (h.0 ++ overlap_view o ∷ []) h.1 h.3 t k)
    where
      longer : length (h.0 ++ overlap_view o ∷ []) ≡ n + 1
      longer = (let long = length-append h.0 (overlap_view o ∷ []) in let behind = h.2 in omega (arith, long, behind))

  -- where memory is refused
  pub stands_still : (t : Search) → t.system ≡ s.system → DoesStay s t → StandsBefore sys t n (Some o)
  stands_still t e k = (h.0, h.1, h.2, stays sys s (h.0 ++ overlap_view o ∷ []) h.1 h.3 t e k)

pub few_behind : (sys : System) (s : Search) (n : ℕ) (next : Option Overlap) → StandsBefore sys s n next → n ≤ 20000
few_behind sys s n (Some o) (done, later, behind, under) =
    let few = under.few in
    let long = length-append done (overlap_view o ∷ []) in
    omega (arith, behind, few, long)
few_behind sys s n None (done, behind, are) = let few = are.few in omega (arith, behind, few)

abbrev run : Kind → System → Tally → PairRun
run kind sys t = record { kind = kind; system = sys; tally = t }

module _ (kind : Kind) (sys : System) where
  -- a failure stays, whatever comes
  pub take_failed : (r : Rejection) (e : PairEntry) → DoesTake (run kind sys (failed r)) e (run kind sys (failed r))
  take_failed r e = record { kind = refl; system = refl; tally = λ os es are h. failure_stays kind sys 0 os es (e ∷ []) r h }

  pub finish_failed : (r : Rejection) (es : List PairEntry) → HasTaken (run kind sys (failed r)) es → DoNotSettle kind sys es r
  finish_failed r es (os, are, h) = do_not_settle kind sys os are es r h

  module _ (s : Search) (n : ℕ) where
    -- no overlap is left
    pub take_extra : (e : PairEntry) → StandsBefore sys s n None → DoesTake (run kind sys (passed n)) e (run kind sys (failed (pair_extra (n + 1))))
    take_extra e (done, behind, all) =
        record {
          kind = refl;
          system = refl;
          tally = λ os es are h. subst (λ k. AreTallied kind sys 0 os (es ++ e ∷ []) (failed (pair_extra k))) (sym (add-one n))
              (extra_taken kind sys os n (ap length (overlaps_once sys os done are all) ∙ behind) es h e);
        }

    pub finish_all : (es : List PairEntry) → StandsBefore sys s n None → HasTaken (run kind sys (passed n)) es → DoSettle kind sys es
    finish_all es (done, behind, all) (os, are, h) = do_settle kind sys os are es n (ap length (overlaps_once sys os done are all) ∙ behind) h

    module _ (o : Overlap) (stands : StandsBefore sys s n (Some o)) where
      -- the entry is for another overlap
      pub take_other : (e : PairEntry) → triple_of e ≢ triple (overlap_view o) → DoesTake (run kind sys (passed n)) e (run kind sys (failed (pair_missing o.inner o.pos.items o.outer)))
      take_other e differs =
          record {
            kind = refl;
            system = refl;
            tally = λ os es are h. other_taken kind sys os stands.0 stands.1 (overlap_view o) n (split sys s n o stands os are) stands.2 es h e differs;
          }

      -- its evidence is not valid
      pub take_bad : (e : PairEntry) (why : EvidenceReason) → triple_of e ≡ triple (overlap_view o) → IsPairJudged kind sys (overlap_view o) e.evidence (Some why)
          → DoesTake (run kind sys (passed n)) e (run kind sys (failed (evidence_fails (n + 1) why)))
      take_bad e why same judged =
          record {
            kind = refl;
            system = refl;
            tally =
                λ os es are h. subst (λ k. AreTallied kind sys 0 os (es ++ e ∷ []) (failed (evidence_fails k why))) (sym (add-one n))
                (bad_taken kind sys os stands.0 stands.1 (overlap_view o) n (split sys s n o stands os are) stands.2 es h e why same judged);
          }

      -- it settles the overlap
      pub take_good : (e : PairEntry) → triple_of e ≡ triple (overlap_view o) → IsPairJudged kind sys (overlap_view o) e.evidence None
          → DoesTake (run kind sys (passed n)) e (run kind sys (passed (n + 1)))
      take_good e same judged =
          record {
            kind = refl;
            system = refl;
            tally =
                λ os es are h. subst (λ k. AreTallied kind sys 0 os (es ++ e ∷ []) (passed k)) (sym (add-one n))
                (good_taken kind sys os stands.0 stands.1 (overlap_view o) n (split sys s n o stands os are) stands.2 es h e same judged);
          }

      -- it has no entry
      pub finish_missing : (es : List PairEntry) → HasTaken (run kind sys (passed n)) es → DoNotSettle kind sys es (pair_missing o.inner o.pos.items o.outer)
      finish_missing es (os, are, h) = do_miss kind sys os are es stands.0 stands.1 (overlap_view o) n (split sys s n o stands os are) stands.2 h

-- why an entry fails for the next overlap, and that it settles it
take_fails : (kind : Kind) (sys : System) (s : Search) (n : ℕ) (next : Option Overlap) → StandsBefore sys s n next → (e : PairEntry) (reason : Rejection)
    → DoesFailNext kind sys n next e reason → DoesTake (run kind sys (passed n)) e (run kind sys (failed reason))
take_fails kind sys s n None stands e reason is = subst (λ r. DoesTake (run kind sys (passed n)) e (run kind sys (failed r))) (sym is) (take_extra kind sys s n e stands)
take_fails kind sys s n (Some o) stands e reason (inl (differs, is)) =
    subst (λ r. DoesTake (run kind sys (passed n)) e (run kind sys (failed r))) (sym is) (take_other kind sys s n o stands e differs)
take_fails kind sys s n (Some o) stands e reason (inr (same, (why, judged, is))) =
    subst (λ r. DoesTake (run kind sys (passed n)) e (run kind sys (failed r))) (sym is) (take_bad kind sys s n o stands e why same judged)

take_settles : (kind : Kind) (sys : System) (s : Search) (n : ℕ) (next : Option Overlap) → StandsBefore sys s n next → (e : PairEntry) → DoesSettleNext kind sys next e
    → DoesTake (run kind sys (passed n)) e (run kind sys (passed (n + 1)))
take_settles kind sys s n None stands e h = absurd h
take_settles kind sys s n (Some o) stands e (same, judged) = take_good kind sys s n o stands e same judged

next_of : (sys : System) (s : Search) (n : ℕ) (next : Option Overlap) → StandsBefore sys s n next → IsNextOf sys next
next_of sys s n None stands = tt
next_of sys s n (Some o) stands = next_is_overlap sys s n o stands

list_of : (kind : Kind) (sys : System) (s : Search) (n : ℕ) (next : Option Overlap) (e : PairEntry) → StandsBefore sys s n next → DoesSettleNext kind sys next e → HasList s
list_of kind sys s n None e stands h = absurd h
list_of kind sys s n (Some o) e stands h = list_there sys s n o stands

goes_to : (kind : Kind) (sys : System) (s : Search) (n : ℕ) (next : Option Overlap) (e : PairEntry) → StandsBefore sys s n next → DoesSettleNext kind sys next e
    → (t : Search) → t.system ≡ s.system → (after : Option Overlap) → OfferAnswers s t (Ok after) → StandsBefore sys t (n + 1) after
goes_to kind sys s n None e stands h = absurd h
goes_to kind sys s n (Some o) e stands h = stands_next sys s n o stands

keeps_to : (kind : Kind) (sys : System) (s : Search) (n : ℕ) (next : Option Overlap) (e : PairEntry) → StandsBefore sys s n next → DoesSettleNext kind sys next e
    → (t : Search) → t.system ≡ s.system → DoesStay s t → StandsBefore sys t n next
keeps_to kind sys s n None e stands h = absurd h
keeps_to kind sys s n (Some o) e stands h = stands_still sys s n o stands

-- an entry of a run that has failed
pub kept_failed : (i : Inside) (now : PairRun) → run_view i ≡ now → is_some i.failed ≡ true → (e : PairEntry) → DoesTake now e now
kept_failed i now is some e = go i.failed some is
  where
    go : (f : Option reasons.Rejected) → is_some f ≡ true → run (kind_view i.kind) i.sys.now (tally_view i.taken f) ≡ now → DoesTake now e now
    go None some is = cc
    go (Some r) some is = subst (λ z. DoesTake z e z) is (take_failed (kind_view i.kind) i.sys.now (rejected_view r) e)

pub not_failed : (f : Option reasons.Rejected) → is_some f ≡ false → f ≡ None
not_failed None h = refl
not_failed (Some r) h = cc

-- of a run that has not failed
module _ (i : Inside) (held : IsHeld i) (none : i.failed ≡ None) where
  stands : StandsBefore i.sys.now i.search i.taken i.next
  stands = held.stands none

  pub next_there : IsNextOf i.sys.now i.next
  next_there = next_of i.sys.now i.search i.taken i.next stands

  pub few_taken : i.taken ≤ 20000
  few_taken = few_behind i.sys.now i.search i.taken i.next stands

  module _ (now : PairRun) (is : run_view i ≡ now) where
    as_run : run (kind_view i.kind) i.sys.now (passed i.taken) ≡ now
    as_run = ap (λ z. run (kind_view i.kind) i.sys.now (tally_view i.taken z)) (sym none) ∙ is

    pub taken_failing : (e : PairEntry) (reason : reasons.Rejected) → DoesFailNext (kind_view i.kind) i.sys.now i.taken i.next e (rejected_view reason)
        → (f : Option reasons.Rejected) → f ≡ Some reason → DoesTake now e (run (kind_view i.kind) i.sys.now (tally_view i.taken f))
    taken_failing e reason h f fails =
        subst₂ (λ z g. DoesTake z e (run (kind_view i.kind) i.sys.now (tally_view i.taken g))) as_run (sym fails)
        (take_fails (kind_view i.kind) i.sys.now i.search i.taken i.next stands e (rejected_view reason) h)

    pub taken_settling : (e : PairEntry) → DoesSettleNext (kind_view i.kind) i.sys.now i.next e → DoesTake now e (run (kind_view i.kind) i.sys.now (tally_view (i.taken + 1) i.failed))
    taken_settling e h =
        subst₂ (λ z g. DoesTake z e (run (kind_view i.kind) i.sys.now (tally_view (i.taken + 1) g))) as_run (sym none) (take_settles (kind_view i.kind) i.sys.now i.search i.taken i.next stands e h)

    pub finished_missing : (o : Overlap) → i.next ≡ Some o → (es : List PairEntry) → HasTaken now es → DoNotSettle now.kind now.system es (pair_missing o.inner o.pos.items o.outer)
    finished_missing o there es h =
        subst (λ z. DoNotSettle z.kind z.system es (pair_missing o.inner o.pos.items o.outer)) is
        (finish_missing (kind_view i.kind) i.sys.now i.search i.taken o (subst (StandsBefore i.sys.now i.search i.taken) there stands) es (subst (λ z. HasTaken z es) (sym as_run) h))

    pub finished_all : i.next ≡ None → (es : List PairEntry) → HasTaken now es → DoSettle now.kind now.system es
    finished_all there es h =
        subst (λ z. DoSettle z.kind z.system es) is
        (finish_all (kind_view i.kind) i.sys.now i.search i.taken es (subst (StandsBefore i.sys.now i.search i.taken) there stands) (subst (λ z. HasTaken z es) (sym as_run) h))

  module _ (e : PairEntry) (h : DoesSettleNext (kind_view i.kind) i.sys.now i.next e) where
    pub list_ahead : HasList i.search
    list_ahead = list_of (kind_view i.kind) i.sys.now i.search i.taken i.next e stands h

    pub goes_on_to : (t : Search) → t.system ≡ i.search.system → (after : Option Overlap) → OfferAnswers i.search t (Ok after) → StandsBefore i.sys.now t (i.taken + 1) after
    goes_on_to = goes_to (kind_view i.kind) i.sys.now i.search i.taken i.next e stands h

    pub keeps_on : (t : Search) → t.system ≡ i.search.system → DoesStay i.search t → (next : Option Overlap) → next ≡ i.next → StandsBefore i.sys.now t i.taken next
    keeps_on t system stay next same = subst (StandsBefore i.sys.now t i.taken) (sym same) (keeps_to (kind_view i.kind) i.sys.now i.search i.taken i.next e stands h t system stay)

-- a run that has failed
pub finished_failed : (i : Inside) (now : PairRun) → run_view i ≡ now → (reason : reasons.Rejected) → i.failed ≡ Some reason → (es : List PairEntry) → HasTaken now es
    → DoNotSettle now.kind now.system es (rejected_view reason)
finished_failed i now is reason fails es h =
    subst (λ z. DoNotSettle z.kind z.system es (rejected_view reason)) is
    (finish_failed (kind_view i.kind) i.sys.now (rejected_view reason) es (subst (λ z. HasTaken z es) (sym (ap (λ z. run (kind_view i.kind) i.sys.now (tally_view i.taken z)) (sym fails) ∙ is)) h))
