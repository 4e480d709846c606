-- A run over the entries of a certificate: its tally after one more entry, and what it answers in the end.
use Rattle.std.proofs.Common.{◌≡◌, ◌∙◌, inl, inr, ℕ, ◌+◌, ◌<◌, ◌≤◌, List, [], ◌∷◌, ◌++◌, length, get_or, map, take, take_all, Result, Ok, Err, refl, sym, ap, subst, subst₂}
use Rattle.std.specs.Prelude.{OnOk}
use Rattle.rewriting.specs.Prelude.{System, IsDeterministic, AreDescentsBounded, IsSystem, IsConfluent}
use Rattle.interpretations.specs.Judgement.{Judgement, good}
use Rattle.certificates.specs.Certificates.{PairEntry}
use Rattle.cert_model.specs.CertificateView.{pair_entry_view}
use Rattle.cert_model.specs.ReasonView.{rejected_view}
use Rattle.cert_model.specs.declared.model.PairEntry as program
use Rattle.cert_model.specs.declared.reasons.Rejected.{Rejected}
use Rattle.descent_theorem.specs.Bounded.{BoundedAndSettledSystemsAreConfluent}
use Rattle.valid_certificates.specs.Kinds.{quasi}
use Rattle.valid_certificates.specs.Confluence.{AreRightSidesIrreducible, IsQuasiRejected, quasi_pairs_fail}
use Rattle.tallies.specs.Tally.{IsQuasiTally, whatever_they_are, one_by_one}
use Rattle.tallies.specs.Runs.{PairRun, QuasiRun}
use Rattle.pair_check.specs.Runs.{HasTaken, DoesTake, FinishAnswers}
use Rattle.pair_check.proofs.RunTallies.{InCertificate, taken_tally, tally_of_taken, finished_in, one_entry_more}
use Rattle.quasi_check.specs.Runs.{IsPairRun, tally_of, AreHeld, StartAnswers, QuasiFinish}
use Rattle.quasi_check.proofs.Sound.{quasi_confluent}

module _ (Is : Judgement → Type 0) (sys : System) where
  -- what is judged before the entries
  abbrev Before : Type 0
  Before = IsDeterministic sys × AreRightSidesIrreducible sys × Is good

  -- before the first entry
  pub started_tally : (run : PairRun) → StartAnswers Is sys (Ok run) → IsQuasiTally Is sys [] run.tally
  started_tally run (rules, (measure, (is, (os, are)))) = one_by_one os run.tally (rules.deterministic, rules.irreducible, measure) are (ap (λ r. r.tally) is)

  of_certificate : (es : List PairEntry) (a : Result (Unit {0}) Rejected) → InCertificate quasi sys Before (IsQuasiRejected Is sys) es a → QuasiFinish Is sys es a
  of_certificate es (Ok _) ((deterministic, irreducible, measure), pairs) = record { deterministic = deterministic; irreducible = irreducible; measure = measure; pairs = pairs }
  of_certificate es (Err reason) (inl h) = h
  of_certificate es (Err reason) (inr ((deterministic, irreducible, measure), pairs)) = quasi_pairs_fail (rejected_view reason) deterministic irreducible measure pairs

  -- the run over the entries
  module _ (run : PairRun) (is : IsPairRun Is sys run) where
    before : Before
    before = (is.rules.deterministic, is.rules.irreducible, is.measure)

    pairs_tally : (e : PairEntry) (after : PairRun) → DoesTake run e after → (es : List PairEntry) → IsQuasiTally Is sys es run.tally → IsQuasiTally Is sys (es ++ e ∷ []) after.tally
    pairs_tally e after takes es h = taken_tally quasi sys Before (IsQuasiRejected Is sys) run is.kind is.system is.taken.0 is.taken.1 e after takes es h

    module _ (a : Result (Unit {0}) Rejected) (answers : (es : List PairEntry) → HasTaken run es → FinishAnswers run.kind run.system es a) where
      pairs_finish : (es : List PairEntry) → IsQuasiTally Is sys es run.tally → QuasiFinish Is sys es a
      pairs_finish es h = of_certificate es a (finished_in quasi sys Before (IsQuasiRejected Is sys) run is.kind is.system is.taken.0 is.taken.1 a answers es run.tally refl h)

      -- the entries that it has taken are judged
      pairs_judged : QuasiFinish Is sys is.taken.0 a
      pairs_judged = pairs_finish is.taken.0 (tally_of_taken quasi sys Before (IsQuasiRejected Is sys) run is.kind is.system is.taken.0 is.taken.1 before)

-- a run with a measure, and what it keeps
module _ {M : Type 0} (judged : M → System → Judgement → Type 0) where
  abbrev viewed : System → M → Result PairRun Rejected → QuasiRun M
  viewed sys measure pairs = record { system = sys; measure = measure; tally = tally_of pairs }

  abbrev HasTally : QuasiRun M → List PairEntry → Result PairRun Rejected → Type 0
  HasTally v es pairs = IsQuasiTally (judged v.measure v.system) v.system es (tally_of pairs)

  module _ (value : QuasiRun M) (sys : System) (measure : M) (pairs : Result PairRun Rejected) (view : viewed sys measure pairs ≡ value) (held : AreHeld (judged measure sys) sys pairs) where
    module _ (run : PairRun) (is : pairs ≡ Ok run) where
      held_run : IsPairRun (judged measure sys) sys run
      held_run = subst (AreHeld (judged measure sys) sys) is held

      held_tally : (es : List PairEntry) → IsQuasiTally (judged value.measure value.system) value.system es value.tally → IsQuasiTally (judged measure sys) sys es run.tally
      held_tally es h =
          subst (λ p. IsQuasiTally (judged measure sys) sys es (tally_of p)) is
          (subst (λ (v : QuasiRun M). IsQuasiTally (judged v.measure v.system) v.system es v.tally) (sym view) h)

      pub run_takes : (e : PairEntry) (new : Result PairRun Rejected) (after : PairRun) → new ≡ Ok after → DoesTake run e after
          → (es : List PairEntry) → IsQuasiTally (judged value.measure value.system) value.system es value.tally → HasTally value (es ++ e ∷ []) new
      run_takes e new after same takes es h =
          subst₂ (λ v p. HasTally v (es ++ e ∷ []) p) view (sym same) (pairs_tally (judged measure sys) sys run held_run e after takes es (held_tally es h))

      module _ (a : Result (Unit {0}) Rejected) (answers : (es : List PairEntry) → HasTaken run es → FinishAnswers run.kind run.system es a) where
        pub run_finishes : (es : List PairEntry) → IsQuasiTally (judged value.measure value.system) value.system es value.tally → QuasiFinish (judged value.measure value.system) value.system es a
        run_finishes es h =
            subst (λ (v : QuasiRun M). QuasiFinish (judged v.measure v.system) v.system es a) view (pairs_finish (judged measure sys) sys run held_run a answers es (held_tally es h))

        pub run_confluent : BoundedAndSettledSystemsAreConfluent → (judged measure sys good → AreDescentsBounded sys) → IsSystem sys → OnOk a (IsConfluent value.system)
        run_confluent law bounds kept =
            subst (λ (v : QuasiRun M). OnOk a (IsConfluent v.system)) view
            (quasi_confluent law (judged measure sys) sys held_run.taken.0 bounds kept a (pairs_judged (judged measure sys) sys run held_run a answers))

    -- entries that are rejected whatever they are
    pub rejected_takes : (e : PairEntry) (new : Result PairRun Rejected) (reason : Rejected) → pairs ≡ Err reason → new ≡ pairs → (es : List PairEntry) → HasTally value (es ++ e ∷ []) new
    rejected_takes e new reason is same es =
        subst₂ (λ v p. HasTally v (es ++ e ∷ []) p) view (sym same)
        (subst (λ p. IsQuasiTally (judged measure sys) sys (es ++ e ∷ []) (tally_of p)) (sym is)
        (whatever_they_are (rejected_view reason) (subst (AreHeld (judged measure sys) sys) is held)))

  -- a run that has taken all entries of a certificate
  module _ (value : QuasiRun M) (sys : System) (measure : M) (pairs : List program.PairEntry) (i : ℕ) (past : length pairs ≤ i) (is : value.system ≡ sys)
      (same : value.measure ≡ measure) (tallied : IsQuasiTally (judged measure sys) sys (map pair_entry_view (take i pairs)) value.tally) where
    pub of_whole : (P : (Judgement → Type 0) → System → List PairEntry → Type 0)
        → ((es : List PairEntry) → IsQuasiTally (judged value.measure value.system) value.system es value.tally → P (judged value.measure value.system) value.system es)
        → P (judged measure sys) sys (map pair_entry_view pairs)
    of_whole P h =
        let all : IsQuasiTally (judged measure sys) sys (map pair_entry_view pairs) value.tally =
        subst (λ es. IsQuasiTally (judged measure sys) sys es value.tally) (ap (map pair_entry_view) (take_all i pairs past)) tallied in
        subst₂ (λ m s. P (judged m s) s (map pair_entry_view pairs)) same is
        (h (map pair_entry_view pairs) (subst₂ (λ m s. IsQuasiTally (judged m s) s (map pair_entry_view pairs) value.tally) (sym same) (sym is) all))

  -- one more entry of the certificate is taken
  pub loop_goes_on : (value : QuasiRun M) (sys : System) (m : M) (pairs : List program.PairEntry) (i : ℕ) (e : program.PairEntry) → value.system ≡ sys → value.measure ≡ m
      → IsQuasiTally (judged m sys) sys (map pair_entry_view (take i pairs)) value.tally → i < length pairs → e ≡ get_or pairs i e → (new : QuasiRun M) → new.system ≡ value.system
      → new.measure ≡ value.measure
      → ((es : List PairEntry) → IsQuasiTally (judged value.measure value.system) value.system es value.tally → IsQuasiTally (judged value.measure value.system) value.system
      (es ++ pair_entry_view e ∷ []) new.tally)
      → record {
        system : new.system ≡ sys;
        measure : new.measure ≡ m;
        tally : IsQuasiTally (judged m sys) sys (map pair_entry_view (take (i + 1) pairs)) new.tally;
      }
  loop_goes_on value sys m pairs i e is same tallied low here new of_system of_measure takes =
      let es = map pair_entry_view (take i pairs) in
      let before : IsQuasiTally (judged value.measure value.system) value.system es value.tally = subst₂ (λ n s. IsQuasiTally (judged n s) s es value.tally) (sym same) (sym is) tallied in
      let after : IsQuasiTally (judged m sys) sys (es ++ pair_entry_view e ∷ []) new.tally =
      subst₂ (λ n s. IsQuasiTally (judged n s) s (es ++ pair_entry_view e ∷ []) new.tally) same is (takes es before) in
      record {
        system = of_system ∙ is;
        measure = of_measure ∙ same;
        tally = subst (λ z. IsQuasiTally (judged m sys) sys z new.tally) (sym (one_entry_more pairs i e low here)) after;
      }
