-- A run over the entries of a certificate: its tally after one more entry, and what it answers in the end.
use Rattle.std.proofs.Common.{◌≡◌, inl, inr, ℕ, ◌≤◌, List, [], ◌∷◌, ◌++◌, length, map, take, take_all, Result, Ok, Err, refl, sym, ap, subst, subst₂}
use Rattle.std.specs.Prelude.{OnOk}
use Rattle.rewriting.specs.Prelude.{System, IsSystem, IsConfluent}
use Rattle.rewriting.proofs.Laws.{well_formed}
use Rattle.certificates.specs.Certificates.{PairEntry}
use Rattle.cert_model.specs.CertificateView.{pair_entry_view}
use Rattle.cert_model.specs.ReasonView.{rejected_view}
use Rattle.cert_model.specs.declared.model.PairEntry as program
use Rattle.cert_model.specs.declared.reasons.Rejected.{Rejected}
use Rattle.level_theorem.specs.AlmostOrthogonal.{DoLevelsCommute, LevelsCommute, AlmostOrthogonalSystemsAreConfluent}
use Rattle.valid_certificates.specs.Kinds.{ortho}
use Rattle.valid_certificates.specs.Confluence.{IsInOrthoClasses, IsOrthoRejected, ortho_pairs_fail}
use Rattle.tallies.specs.Tally.{IsOrthoTally, whatever_they_are, one_by_one}
use Rattle.tallies.specs.Runs.{PairRun, OrthoRun}
use Rattle.pair_check.specs.Runs.{HasTaken, DoesTake, FinishAnswers}
use Rattle.pair_check.proofs.RunTallies.{InCertificate, taken_tally, tally_of_taken, finished_in}
use Rattle.ortho_check.specs.Runs.{IsPairRun, StartAnswers, OrthoFinish}
use Rattle.ortho_check.specs.RunView.{tally_of, AreHeld}
use Rattle.ortho_check.proofs.Sound.{almost_orthogonal}

module _ (sys : System) where
  of_certificate : (es : List PairEntry) (a : Result (Unit {0}) Rejected) → InCertificate ortho sys (IsInOrthoClasses sys) (IsOrthoRejected sys) es a → OrthoFinish sys es a
  of_certificate es (Ok _) h = record { classes = h.0; pairs = h.1 }
  of_certificate es (Err reason) (inl h) = h
  of_certificate es (Err reason) (inr h) = ortho_pairs_fail (rejected_view reason) h.0 h.1

  levels_of : LevelsCommute → IsSystem sys → (es : List PairEntry) (a : Result (Unit {0}) Rejected) → OrthoFinish sys es a → OnOk a (DoLevelsCommute sys)
  levels_of law kept es (Ok _) h = law sys (almost_orthogonal sys es (well_formed sys kept) h)
  levels_of law kept es (Err e) h = tt

  confluent_of : AlmostOrthogonalSystemsAreConfluent → IsSystem sys → (es : List PairEntry) (a : Result (Unit {0}) Rejected) → OrthoFinish sys es a → OnOk a (IsConfluent sys)
  confluent_of law kept es (Ok _) h = law sys (almost_orthogonal sys es (well_formed sys kept) h)
  confluent_of law kept es (Err e) h = tt

  -- before the first entry
  pub started_tally : (run : PairRun) → StartAnswers sys (Ok run) → IsOrthoTally sys [] run.tally
  started_tally run (classes, (is, (os, are))) = one_by_one os run.tally classes are (ap (λ r. r.tally) is)

  -- the run over the entries
  module _ (run : PairRun) (is : IsPairRun sys run) where
    pairs_take : (e : PairEntry) (after : PairRun) → DoesTake run e after → (es : List PairEntry) → IsOrthoTally sys es run.tally → IsOrthoTally sys (es ++ e ∷ []) after.tally
    pairs_take e after takes es h = taken_tally ortho sys (IsInOrthoClasses sys) (IsOrthoRejected sys) run is.kind is.system is.taken.0 is.taken.1 e after takes es h

    module _ (a : Result (Unit {0}) Rejected) (answers : (es : List PairEntry) → HasTaken run es → FinishAnswers run.kind run.system es a) where
      pairs_finish : (es : List PairEntry) → IsOrthoTally sys es run.tally → OrthoFinish sys es a
      pairs_finish es h =
          of_certificate es a (finished_in ortho sys (IsInOrthoClasses sys) (IsOrthoRejected sys) run is.kind is.system is.taken.0 is.taken.1 a answers es run.tally refl h)

      -- the entries that it has taken are judged
      pairs_judged : OrthoFinish sys is.taken.0 a
      pairs_judged = pairs_finish is.taken.0 (tally_of_taken ortho sys (IsInOrthoClasses sys) (IsOrthoRejected sys) run is.kind is.system is.taken.0 is.taken.1 is.classes)

abbrev viewed : System → Result PairRun Rejected → OrthoRun
viewed sys pairs = record { system = sys; tally = tally_of pairs }

-- a run, and what it keeps
module _ (value : OrthoRun) (sys : System) (pairs : Result PairRun Rejected) (view : viewed sys pairs ≡ value) (held : AreHeld sys pairs) where
  module _ (run : PairRun) (is : pairs ≡ Ok run) where
    held_run : IsPairRun sys run
    held_run = subst (AreHeld sys) is held

    held_tally : (es : List PairEntry) → IsOrthoTally value.system es value.tally → IsOrthoTally sys es run.tally
    held_tally es h = subst (λ p. IsOrthoTally sys es (tally_of p)) is (subst (λ v. IsOrthoTally v.system es v.tally) (sym view) h)

    pub run_takes : (e : PairEntry) (new : Result PairRun Rejected) (after : PairRun) → new ≡ Ok after → DoesTake run e after
        → (es : List PairEntry) → IsOrthoTally value.system es value.tally → IsOrthoTally value.system (es ++ e ∷ []) (tally_of new)
    run_takes e new after same takes es h =
        subst₂ (λ v p. IsOrthoTally v.system (es ++ e ∷ []) (tally_of p)) view (sym same) (pairs_take sys run held_run e after takes es (held_tally es h))

    module _ (a : Result (Unit {0}) Rejected) (answers : (es : List PairEntry) → HasTaken run es → FinishAnswers run.kind run.system es a) where
      pub run_finishes : (es : List PairEntry) → IsOrthoTally value.system es value.tally → OrthoFinish value.system es a
      run_finishes es h = subst (λ v. OrthoFinish v.system es a) view (pairs_finish sys run held_run a answers es (held_tally es h))

      pub run_levels : LevelsCommute → IsSystem sys → OnOk a (DoLevelsCommute value.system)
      run_levels law kept = subst (λ v. OnOk a (DoLevelsCommute v.system)) view (levels_of sys law kept held_run.taken.0 a (pairs_judged sys run held_run a answers))

      pub run_confluent : AlmostOrthogonalSystemsAreConfluent → IsSystem sys → OnOk a (IsConfluent value.system)
      run_confluent law kept = subst (λ v. OnOk a (IsConfluent v.system)) view (confluent_of sys law kept held_run.taken.0 a (pairs_judged sys run held_run a answers))

  -- entries that are rejected whatever they are
  pub rejected_takes : (e : PairEntry) (new : Result PairRun Rejected) (reason : Rejected) → pairs ≡ Err reason → new ≡ pairs → (es : List PairEntry)
      → IsOrthoTally value.system (es ++ e ∷ []) (tally_of new)
  rejected_takes e new reason is same es =
      subst₂ (λ v p. IsOrthoTally v.system (es ++ e ∷ []) (tally_of p)) view (sym same)
      (subst (λ p. IsOrthoTally sys (es ++ e ∷ []) (tally_of p)) (sym is) (whatever_they_are (rejected_view reason) (subst (AreHeld sys) is held)))

-- a run that has taken all entries of a certificate
module _ (value : OrthoRun) (sys : System) (pairs : List program.PairEntry) (i : ℕ) (past : length pairs ≤ i) (is : value.system ≡ sys)
    (tallied : IsOrthoTally sys (map pair_entry_view (take i pairs)) value.tally) where
  pub of_whole : (P : System → List PairEntry → Type 0) → ((es : List PairEntry) → IsOrthoTally value.system es value.tally → P value.system es) → P sys (map pair_entry_view pairs)
  of_whole P h =
      subst (λ s. P s (map pair_entry_view pairs)) is
      (h (map pair_entry_view pairs) (subst₂ (λ s es. IsOrthoTally s es value.tally) (sym is) (ap (map pair_entry_view) (take_all i pairs past)) tallied))
