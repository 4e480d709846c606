-- From what a run over entries answers to the tally of a certificate, of which its entries are a part.
use Rattle.std.proofs.Common.{◌≡◌, ◌⊎◌, inl, inr, ℕ, zero, suc, ◌+◌, ◌<◌, List, [], ◌∷◌, ◌++◌, length, get_or, map, take, Result, Ok, Err, sym, ap, ◌∙◌, subst, subst₂, arith}
use Rattle.std.proofs.lemmas.List.{map_more}
use Rattle.std.specs.Prelude.{OnOk}
use Rattle.rewriting.specs.Rules.{System}
use Rattle.unifier_run.specs.Overlaps.{Overlap, AreOverlaps}
use Rattle.certificates.specs.Prelude.{PairEntry, Rejection}
use Rattle.cert_model.specs.CertificateView.{pair_entry_view}
use Rattle.cert_model.specs.ReasonView.{rejected_view}
use Rattle.cert_model.specs.declared.model.PairEntry as program
use Rattle.cert_model.specs.declared.reasons.Rejected.{Rejected}
use Rattle.valid_certificates.specs.Kinds.{Kind}
use Rattle.term_core.specs.declared.terms.NoMemory.{NoMemory}
use Rattle.valid_certificates.specs.Entries.{DoSettle, DoNotSettle, IsPairShort, ArePairsShort}
use Rattle.tallies.specs.Tally.{Tally, failed, AreTallied, IsTally, whatever_they_are, one_by_one}
use Rattle.tallies.specs.Runs.{PairRun}
use Rattle.tallies.proofs.Taking.{tally_takes}
use Rattle.tallies.proofs.Judged.{failed_never_settle, failed_reason, failed_takes}
use Rattle.pair_check.specs.Runs.{HasTaken, DoesTake, FinishAnswers}

module _ (kind : Kind) (sys : System) (Before : Type 0) (IsRejected : List PairEntry → Rejection → Type 0) where
  abbrev In : List PairEntry → Tally → Type 0
  In es t = IsTally kind sys Before IsRejected es t

  -- what a run over entries answers in the end, where it is in a certificate
  abbrev pub InCertificate : List PairEntry → Result (Unit {0}) Rejected → Type 0
  InCertificate es (Ok _) = Before × DoSettle kind sys es
  InCertificate es (Err reason) = IsRejected es (rejected_view reason) ⊎ (Before × DoNotSettle kind sys es (rejected_view reason))

  -- a run of the kind over the overlaps of the system, which has taken some entries
  module _ (run : PairRun) (is_kind : run.kind ≡ kind) (is_system : run.system ≡ sys) (taken : List PairEntry) (has : HasTaken run taken) where
    of_run : (os : List Overlap) (es : List PairEntry) (t : Tally) → AreTallied run.kind run.system 0 os es t → AreTallied kind sys 0 os es t
    of_run os es t h = subst₂ (λ k s. AreTallied k s 0 os es t) is_kind is_system h

    to_run : (os : List Overlap) (es : List PairEntry) (t : Tally) → AreTallied kind sys 0 os es t → AreTallied run.kind run.system 0 os es t
    to_run os es t h = subst₂ (λ k s. AreTallied k s 0 os es t) (sym is_kind) (sym is_system) h

    run_over : (os : List Overlap) → AreOverlaps sys os → AreOverlaps run.system os
    run_over os are = subst (λ s. AreOverlaps s os) (sym is_system) are

    -- its entries have its tally
    pub tally_of_taken : Before → In taken run.tally
    tally_of_taken before = one_by_one has.0 run.tally before (subst (λ s. AreOverlaps s has.0) is_system has.1) (of_run has.0 taken run.tally has.2)

    -- one more entry is taken
    pub taken_tally : (e : PairEntry) (after : PairRun) → DoesTake run e after → (es : List PairEntry) → In es run.tally → In (es ++ e ∷ []) after.tally
    taken_tally e after takes es h =
        tally_takes kind sys Before IsRejected es e run.tally after.tally
        (failed_takes run.kind run.system has.0 taken e run.tally after.tally has.2 (λ k. takes.tally has.0 taken has.1 k))
        (λ os are k. of_run os (es ++ e ∷ []) after.tally (takes.tally os es (run_over os are) (to_run os es run.tally k))) h

    -- a run that has failed answers why
    failed_in : (r : Rejection) → AreTallied run.kind run.system 0 has.0 taken (failed r) → (a : Result (Unit {0}) Rejected) → FinishAnswers run.kind run.system taken a
        → (es : List PairEntry) → ((fs : List PairEntry) → IsRejected fs r) → InCertificate es a
    failed_in r fails (Ok _) h es all = absurd (failed_never_settle run.kind run.system has.0 has.1 taken r fails h)
    failed_in r fails (Err reason) h es all = inl (subst (IsRejected es) (sym (failed_reason run.kind run.system has.0 has.1 taken r fails (rejected_view reason) h)) (all es))

    judged_in : Before → (es : List PairEntry) (a : Result (Unit {0}) Rejected) → FinishAnswers run.kind run.system es a → InCertificate es a
    judged_in before es (Ok _) h = (before, subst₂ (λ k s. DoSettle k s es) is_kind is_system h)
    judged_in before es (Err reason) h = inr (before, subst₂ (λ k s. DoNotSettle k s es (rejected_view reason)) is_kind is_system h)

    -- the answer in the end is that of the certificate
    pub finished_in : (a : Result (Unit {0}) Rejected) → ((es : List PairEntry) → HasTaken run es → FinishAnswers run.kind run.system es a)
        → (es : List PairEntry) (t : Tally) → t ≡ run.tally → In es t → InCertificate es a
    finished_in a answers es t is (whatever_they_are reason all) =
        failed_in reason (subst (AreTallied run.kind run.system 0 has.0 taken) (sym is) has.2) a (answers taken has) es all
    finished_in a answers es t is (one_by_one os u before are h) =
        judged_in before es a (answers es (os, run_over os are, subst (AreTallied run.kind run.system 0 os es) is (to_run os es t h)))

-- the entries of the program one after another
pub entry_short : (es : List program.PairEntry) (i : ℕ) (e : program.PairEntry) → i < length es → e ≡ get_or es i e → ArePairsShort (map pair_entry_view es) → IsPairShort (pair_entry_view e).evidence
entry_short [] i e low is short = absurd (omega (arith, low))
entry_short (d ∷ es) zero e low is short = subst (λ z. IsPairShort (pair_entry_view z).evidence) (sym is) short.0
entry_short (d ∷ es) (suc i) e low is short = entry_short es i e (omega (arith, low)) is short.1

pub one_entry_more : (es : List program.PairEntry) (i : ℕ) (e : program.PairEntry) → i < length es → e ≡ get_or es i e
    → map pair_entry_view (take (i + 1) es) ≡ map pair_entry_view (take i es) ++ pair_entry_view e ∷ []
one_entry_more es i e low is = map_more pair_entry_view es i e low ∙ ap (λ z. map pair_entry_view (take i es) ++ pair_entry_view z ∷ []) (sym is)

-- where a call answers Ok, what follows from what it answers
pub on_ok : {P Q : Type 0} (a : Result (Unit {0}) NoMemory) → OnOk a P → (P → Q) → OnOk a Q
on_ok (Ok _) h f = f h
on_ok (Err _) h f = tt
