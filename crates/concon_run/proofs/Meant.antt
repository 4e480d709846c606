-- What each status means, whichever answer it is told for.
use Rattle.std.proofs.Common.{◌≡◌, ◌⊎◌, ◌++◌, ℕ, List, [], Option, Some, None, codes, inl, inr, refl, sym, ap, ◌∙◌, subst, subst₂}
use Rattle.std.proofs.lemmas.List.{append-nil}
use Rattle.cc_io.specs.Bytes.{appended}
use Rattle.certificates.specs.Certificates.{Certificate}
use Rattle.cert_check.specs.Kinds.{verdict_of}
use Rattle.run_parts.specs.Devices.{HasFailed}
use Rattle.run_parts.specs.Taken.{TakesWhole}
use Rattle.run_parts.specs.Answers.{proof_text}
use Rattle.concon_run.specs.Verdicts.{status_of}
use Rattle.cert_check.specs.declared.Verdict.{Verdict}
use Rattle.cert_check.specs.declared.Verdict.TheVariants.{Yes, No}
use Rattle.cops_names.specs.NameTable.{NameTable}
use Rattle.concon_run.specs.Run.{Run}
use Rattle.concon_run.specs.Said.{Said, no_memory_said}
use Rattle.concon_run.specs.Check.{IsCheck, no_system, no_certificate, rejected, shown, CheckAnswer, checked, file_unread, cert_unread, said_of_check, IsCheckAnswer, CheckComesTo, IsOfCheck}
use Rattle.concon_run.specs.Prove.{IsProve, bad_file, found, over_budget, exhausted, ProveAnswer, searched, said_of_prove, IsProveAnswer, ProveComesTo, TookProof, ProofStandsBelow, IsOfProve}
use Rattle.concon_run.specs.Prove as search
use Rattle.concon_run.specs.Query.{IsQuery, bad_query, answer_found, said_of_answer, QueryReply, queried, query_unread, said_of_query, IsQueryReply, RunQueryComesTo, TookAnswer}
use Rattle.concon_run.specs.Query.{AnswerStandsBelow, IsOfQuery}
use Rattle.concon_run.specs.Query as asking
use Rattle.concon_run.specs.Selftest.{IsSelftest}
use Rattle.query_space.specs.Items.{QueryAnswer, never_met, met_by}
use Rattle.concon_run.specs.Commands.{Command, check, prove, selftest, query, IsCommand, AnswerTo, said_to, IsAnswerTo, IsNoCommand, IsSaidFor, usage_said, IsAnswered}
use Rattle.concon_run.specs.Rows.{IsFileRefusal, IsCertificateRefusal, IsQueryRefusal, IsQueryAnswered, IsRejection, IsVerdict, IsYes, IsNo, IsUndecided, IsReadFault, IsWriteFault, IsWanting}
use Rattle.concon_run.specs.declared.status.Status.{Status}
use Rattle.concon_run.specs.declared.status.Status.TheVariants as statuses
use Rattle.concon_run.proofs.OneCommand.{command_once}

-- a certificate with the verdict is valid, and where it was searched for this is the text for out
abbrev Shows : Run → Verdict → List ℕ → Type 0
Shows run v out = CheckComesTo run (shown v) ⊎ ((names : NameTable) × (c : Certificate) × ProveComesTo run (found names c) × (v ≡ verdict_of c) × (out ≡ proof_text names c))

-- a query has an answer that is said with this status, by this text for out
abbrev Answers : Run → Status → List ℕ → Type 0
Answers run status out =
    (names : NameTable) × (vs : List (List ℕ)) × (a : QueryAnswer) × RunQueryComesTo run (answer_found names vs a) × (status ≡ (said_of_answer names vs a).status)
    × (out ≡ (said_of_answer names vs a).out)

-- of a status with the texts for out and err
abbrev Means : Run → Status → List ℕ → List ℕ → Type 0
Means run statuses.Yes out err = (Shows run Yes out ⊎ ((n : ℕ) × IsSelftest run.words n)) ⊎ Answers run statuses.Yes out
Means run statuses.No out err = Shows run No out ⊎ Answers run statuses.No out
Means run statuses.Maybe out err =
    ((ProveComesTo run exhausted ⊎ RunQueryComesTo run asking.exhausted) × (out ≡ codes "MAYBE exhausted\n"))
    ⊎ ((ProveComesTo run over_budget ⊎ RunQueryComesTo run asking.over_budget) × (out ≡ codes "MAYBE budget\n"))
Means run statuses.Rejected out err = IsRejection run
Means run statuses.Usage out err = IsNoCommand run.words
Means run statuses.FileRefused out err = IsFileRefusal run
Means run statuses.CertRefused out err = IsCertificateRefusal run
Means run statuses.QueryRefused out err = IsQueryRefusal run
Means run statuses.ReadFault out err = (name : List ℕ) × HasFailed run.shelf name × (err ≡ name ++ codes ": read fault\n")
Means run statuses.WriteFault out err = ⊥
Means run statuses.NoMemory out err = (out ≡ []) × (err ≡ codes "no memory\n")

abbrev IsMeant : Run → Said → Type 0
IsMeant run said = Means run said.status said.out said.err

check_meant : (run : Run) (file cert : List ℕ) → IsCheck run.words file cert → (a : CheckAnswer) → IsCheckAnswer run.shelf file cert a → IsMeant run (said_of_check file cert a)
check_meant run file cert form (checked (no_system refusal)) h = (refusal, file, inl (inl (cert, form)), h.cause)
check_meant run file cert form (checked (no_certificate refusal)) h = (refusal, (file, cert, form, h.cause))
check_meant run file cert form (checked (rejected names reason)) h = (names, reason, (file, cert, form, h.cause))
check_meant run file cert form (checked (shown Yes)) h = inl (inl (inl (file, cert, form, h.cause)))
check_meant run file cert form (checked (shown No)) h = inl (inl (file, cert, form, h.cause))
check_meant run file cert form file_unread h = (file, h.cause, refl)
check_meant run file cert form cert_unread h = (cert, h.cause.0, refl)

found_meant : (run : Run) (names : NameTable) (c : Certificate) (err : List ℕ) → ProveComesTo run (found names c) → (v : Verdict) → v ≡ verdict_of c → Means run (status_of v) (proof_text names c) err
found_meant run names c err h Yes e = inl (inl (inr (names, c, h, e, refl)))
found_meant run names c err h No e = inl (inr (names, c, h, e, refl))

prove_meant : (run : Run) (file : List ℕ) (budget : ℕ) → IsProve run.words file budget → (a : ProveAnswer) → IsProveAnswer run.shelf file budget a → IsMeant run (said_of_prove file a)
prove_meant run file budget form (searched (bad_file refusal)) h = (refusal, file, inl (inr (budget, form)), h.cause)
prove_meant run file budget form (searched (found names c)) h = found_meant run names c _ (file, budget, form, h.cause) (verdict_of c) refl
prove_meant run file budget form (searched over_budget) h = inr (inl (file, budget, form, h.cause), refl)
prove_meant run file budget form (searched exhausted) h = inl (inl (file, budget, form, h.cause), refl)
prove_meant run file budget form search.file_unread h = (file, h.cause, refl)

query_meant : (run : Run) (file text : List ℕ) (budget : ℕ) → IsQuery run.words file text budget → (r : QueryReply) → IsQueryReply run.shelf file text budget r
    → IsMeant run (said_of_query file text r)
query_meant run file text budget form (queried (asking.bad_file refusal)) h = (refusal, file, inr (text, budget, form), h.cause)
query_meant run file text budget form (queried (bad_query refusal)) h = (refusal, (file, text, budget, form, h.cause))
query_meant run file text budget form (queried (answer_found names vs (never_met e))) h = inr (names, vs, never_met e, (file, text, budget, form, h.cause), refl, refl)
query_meant run file text budget form (queried (answer_found names vs (met_by ts ds))) h = inr (names, vs, met_by ts ds, (file, text, budget, form, h.cause), refl, refl)
query_meant run file text budget form (queried asking.over_budget) h = inr (inr (file, text, budget, form, h.cause), refl)
query_meant run file text budget form (queried asking.exhausted) h = inl (inr (file, text, budget, form, h.cause), refl)
query_meant run file text budget form asking.file_unread h = (file, h.cause, refl)
query_meant run file text budget form query_unread h = (text, h.cause.0, refl)

answer_meant : (run : Run) (command : Command) → IsCommand run.words command → (a : AnswerTo command) → IsAnswerTo run.shelf command a → IsMeant run (said_to command a)
answer_meant run (check file cert) form a h = check_meant run file cert form a h
answer_meant run (prove file budget) form a h = prove_meant run file budget form a h
answer_meant run (selftest n) form a h = inl (inr (n, form))
answer_meant run (query file text budget) form a h = query_meant run file text budget form a h

meant : (run : Run) (said : Said) → IsSaidFor run.words run.shelf said → IsMeant run said
meant run said (inl (none, asked, same)) = subst (IsMeant run) (sym same) none
meant run said (inr (command, form, says)) = by_case says.says
  where
    by_case : ((a : AnswerTo command) × IsAnswerTo run.shelf command a × (said ≡ said_to command a)) ⊎ (said ≡ no_memory_said) → IsMeant run said
    by_case (inl (a, good, same)) = subst (IsMeant run) (sym same) (answer_meant run command form a good)
    by_case (inr same) = subst (IsMeant run) (sym same) (refl, refl)

appended_nothing : (old : Option (List ℕ)) → appended old [] ≡ old
appended_nothing None = refl
appended_nothing (Some bytes) = ap Some (append-nil bytes)

of_check_but : (status : Status) → (status ≡ statuses.Maybe → ⊥) → (status ≡ statuses.QueryRefused → ⊥) → IsOfCheck status
of_check_but statuses.Maybe h k = h refl
of_check_but statuses.QueryRefused h k = k refl
of_check_but _ h k = tt

of_prove_but : (status : Status) → (status ≡ statuses.Rejected → ⊥) → (status ≡ statuses.CertRefused → ⊥) → (status ≡ statuses.QueryRefused → ⊥) → IsOfProve status
of_prove_but statuses.Rejected h k q = h refl
of_prove_but statuses.CertRefused h k q = k refl
of_prove_but statuses.QueryRefused h k q = q refl
of_prove_but _ h k q = tt

of_query_but : (status : Status) → (status ≡ statuses.Rejected → ⊥) → (status ≡ statuses.CertRefused → ⊥) → IsOfQuery status
of_query_but statuses.Rejected h k = h refl
of_query_but statuses.CertRefused h k = k refl
of_query_but _ h k = tt

module _ (run : Run) (h : IsAnswered run) where
  -- what a status means that is not told of a sink
  means : (wanted : Status) → (wanted ≡ statuses.WriteFault → ⊥) → run.status ≡ wanted → Means run wanted h.0.out h.0.err × TakesWhole h.0.out run.out × TakesWhole h.0.err run.err
  means wanted not e = elim h.2 [
    | inl whole ↦ (subst (λ s. Means run s h.0.out h.0.err) (sym whole.0 ∙ e) (meant run h.0 h.1), whole.1, whole.2)
    | inr part ↦ absurd (not (sym e ∙ part.0))
  ]

  pub usage_means : run.status ≡ statuses.Usage → IsNoCommand run.words
  usage_means e = (means statuses.Usage (λ q. cc) e).0

  pub usage_exactly : IsNoCommand run.words → (run.status ≡ statuses.Usage) ⊎ (run.status ≡ statuses.WriteFault)
  usage_exactly none = elim h.2 [
    | inl whole ↦ inl (whole.0 ∙ ap (λ (s : Said). s.status) (only_usage h.1))
    | inr part ↦ inr part.0
  ]
    where
      only_usage : IsSaidFor run.words run.shelf h.0 → h.0 ≡ usage_said
      only_usage (inl usage) = usage.2
      only_usage (inr (command, form, says)) = absurd (none command form)

  pub file_refused_means : run.status ≡ statuses.FileRefused → IsFileRefusal run
  file_refused_means e = (means statuses.FileRefused (λ q. cc) e).0

  pub cert_refused_means : run.status ≡ statuses.CertRefused → IsCertificateRefusal run
  cert_refused_means e = (means statuses.CertRefused (λ q. cc) e).0

  pub query_refused_means : run.status ≡ statuses.QueryRefused → IsQueryRefusal run
  query_refused_means e = (means statuses.QueryRefused (λ q. cc) e).0

  pub rejected_means : run.status ≡ statuses.Rejected → IsRejection run
  rejected_means e = (means statuses.Rejected (λ q. cc) e).0

  pub undecided_means : run.status ≡ statuses.Maybe → IsUndecided run
  undecided_means e = let m = means statuses.Maybe (λ q. cc) e in which m.0 m.1
    where
      which : Means run statuses.Maybe h.0.out h.0.err → TakesWhole h.0.out run.out → IsUndecided run
      which (inl x) took = inl (x.0, took ∙ ap (appended run.out.written_before) x.1)
      which (inr x) took = inr (x.0, took ∙ ap (appended run.out.written_before) x.1)

  pub read_fault_means : run.status ≡ statuses.ReadFault → IsReadFault run
  read_fault_means e = let m = means statuses.ReadFault (λ q. cc) e in (m.0.0, m.0.1, m.2 ∙ ap (appended run.err.written_before) m.0.2)

  pub no_memory_means : run.status ≡ statuses.NoMemory → IsWanting run
  no_memory_means e =
      let m = means statuses.NoMemory (λ q. cc) e in
      record {
        out = m.1 ∙ (ap (appended run.out.written_before) m.0.0 ∙ appended_nothing run.out.written_before);
        err = m.2 ∙ ap (appended run.err.written_before) m.0.1;
      }

  pub write_fault_means : run.status ≡ statuses.WriteFault → IsWriteFault run
  write_fault_means e = elim h.2 [
    | inl whole ↦ absurd (subst (λ s. Means run s h.0.out h.0.err) (sym whole.0 ∙ e) (meant run h.0 h.1))
    | inr part ↦ (h.0, h.1, part.1, part.2)
  ]

  verdict_shown : (v : Verdict) → Shows run v h.0.out → IsVerdict run v
  verdict_shown v (inl x) = inl x
  verdict_shown v (inr x) = inr (x.0, x.1, x.2, x.3)

  answered : (status : Status) → Answers run status h.0.out → IsQueryAnswered run status
  answered status x = (x.0, x.1, x.2, x.3, x.4)

  pub yes_means : run.status ≡ statuses.Yes → IsYes run
  yes_means e = yes_shown (means statuses.Yes (λ q. cc) e).0
    where
      yes_shown : Means run statuses.Yes h.0.out h.0.err → IsYes run
      yes_shown (inl (inl x)) = inl (inl (verdict_shown Yes x))
      yes_shown (inl (inr x)) = inl (inr x)
      yes_shown (inr x) = inr (answered statuses.Yes x)

  pub no_means : run.status ≡ statuses.No → IsNo run
  no_means e = no_shown (means statuses.No (λ q. cc) e).0
    where
      no_shown : Means run statuses.No h.0.out h.0.err → IsNo run
      no_shown (inl x) = inl (verdict_shown No x)
      no_shown (inr x) = inr (answered statuses.No x)

  check_and_prove : (file cert other : List ℕ) (budget : ℕ) → IsCheck run.words file cert → IsProve run.words other budget → ⊥
  check_and_prove file cert other budget x y = let same = command_once run.words (check file cert) (prove other budget) x y in cc

  query_or_check : (file text : List ℕ) (budget : ℕ) (other cert : List ℕ) → IsQuery run.words file text budget → IsCheck run.words other cert → ⊥
  query_or_check file text budget other cert x y = let same = command_once run.words (query file text budget) (check other cert) x y in cc

  query_or_prove : (file text : List ℕ) (budget : ℕ) (other : List ℕ) (units : ℕ) → IsQuery run.words file text budget → IsProve run.words other units → ⊥
  query_or_prove file text budget other units x y = let same = command_once run.words (query file text budget) (prove other units) x y in cc

  query_or_test : (file text : List ℕ) (budget n : ℕ) → IsQuery run.words file text budget → IsSelftest run.words n → ⊥
  query_or_test file text budget n x y = let same = command_once run.words (query file text budget) (selftest n) x y in cc

  -- under prove, out took the certificate
  module _ (file : List ℕ) (budget : ℕ) (form : IsProve run.words file budget) where
    same_file : (other : List ℕ) (units : ℕ) → IsProve run.words other units → other ≡ file
    same_file other units asked = let same = command_once run.words (prove file budget) (prove other units) form asked in cc

    proof_shown : (v : Verdict) → Shows run v h.0.out → TakesWhole h.0.out run.out → TookProof run file
    proof_shown v (inl x) took = absurd (check_and_prove x.0 x.1 file budget x.2 form)
    proof_shown v (inr (names, c, (other, units, asked, ends), same, text)) took =
        subst (TookProof run) (same_file other units asked) (ends.0, names, c, ends.1, ends.2, took ∙ ap (appended run.out.written_before) text)

    not_answered : (status : Status) → Answers run status h.0.out → ⊥
    not_answered status (names, vs, a, (other, text, units, asked, ends), same, out) = query_or_prove other text units file budget asked form

    no_proved : Means run statuses.No h.0.out h.0.err → TakesWhole h.0.out run.out → TookProof run file
    no_proved (inl x) took = proof_shown No x took
    no_proved (inr x) took = absurd (not_answered statuses.No x)

    yes_proved : Means run statuses.Yes h.0.out h.0.err → TakesWhole h.0.out run.out → TookProof run file
    yes_proved (inr x) took = absurd (not_answered statuses.Yes x)
    yes_proved (inl (inl x)) took = proof_shown Yes x took
    yes_proved (inl (inr (n, asked))) took = (let same = command_once run.words (prove file budget) (selftest n) form asked in absurd cc)

    proof_stands : (run.status ≡ statuses.Yes) ⊎ (run.status ≡ statuses.No) → TookProof run file
    proof_stands (inl e) = let m = means statuses.Yes (λ q. cc) e in yes_proved m.0 m.1
    proof_stands (inr e) = let m = means statuses.No (λ q. cc) e in no_proved m.0 m.1

    pub of_prove : IsOfProve run.status
    of_prove =
        of_prove_but run.status
        (λ e. (let x = rejected_means e in check_and_prove x.2.0 x.2.1 file budget x.2.2 form))
        (λ e. (let x = cert_refused_means e in check_and_prove x.1.0 x.1.1 file budget x.1.2 form))
        (λ e. (let x = query_refused_means e in query_or_prove x.1.0 x.1.1 x.1.2 file budget x.1.3 form))

  pub proved : ProofStandsBelow run
  proved file budget form = proof_stands file budget form

  pub of_check : (file cert : List ℕ) → IsCheck run.words file cert → IsOfCheck run.status
  of_check file cert form =
      of_check_but run.status
      (λ e. none_searched (undecided_means e))
      (λ e. (let x = query_refused_means e in query_or_check x.1.0 x.1.1 x.1.2 file cert x.1.3 form))
    where
      none_searched : IsUndecided run → ⊥
      none_searched (inl (inl x, took)) = check_and_prove file cert x.0 x.1 form x.2
      none_searched (inl (inr x, took)) = query_or_check x.0 x.1 x.2 file cert x.3 form
      none_searched (inr (inl x, took)) = check_and_prove file cert x.0 x.1 form x.2
      none_searched (inr (inr x, took)) = query_or_check x.0 x.1 x.2 file cert x.3 form

  -- under query, out took the answer
  module _ (file text : List ℕ) (budget : ℕ) (form : IsQuery run.words file text budget) where
    same_texts : (other others : List ℕ) (units : ℕ) → IsQuery run.words other others units → (other ≡ file) × (others ≡ text)
    same_texts other others units asked = let same = command_once run.words (query file text budget) (query other others units) form asked in (cc, cc)

    answer_shown : (status : Status) → Answers run status h.0.out → TakesWhole h.0.out run.out → TookAnswer run file text
    answer_shown status (names, vs, a, (other, others, units, asked, ends), same, out) took =
        let one = same_texts other others units asked in
        subst₂ (TookAnswer run) one.0 one.1 (ends.0, names, ends.1, vs, a, ends.2, ends.3, took ∙ ap (appended run.out.written_before) out)

    not_shown : (v : Verdict) → Shows run v h.0.out → ⊥
    not_shown v (inl x) = query_or_check file text budget x.0 x.1 form x.2
    not_shown v (inr (names, c, (other, units, asked, ends), same, out)) = query_or_prove file text budget other units form asked

    yes_answered : Means run statuses.Yes h.0.out h.0.err → TakesWhole h.0.out run.out → TookAnswer run file text
    yes_answered (inl (inl x)) took = absurd (not_shown Yes x)
    yes_answered (inl (inr (n, asked))) took = absurd (query_or_test file text budget n form asked)
    yes_answered (inr x) took = answer_shown statuses.Yes x took

    no_answered : Means run statuses.No h.0.out h.0.err → TakesWhole h.0.out run.out → TookAnswer run file text
    no_answered (inl x) took = absurd (not_shown No x)
    no_answered (inr x) took = answer_shown statuses.No x took

    answer_stands : (run.status ≡ statuses.Yes) ⊎ (run.status ≡ statuses.No) → TookAnswer run file text
    answer_stands (inl e) = let m = means statuses.Yes (λ q. cc) e in yes_answered m.0 m.1
    answer_stands (inr e) = let m = means statuses.No (λ q. cc) e in no_answered m.0 m.1

    pub of_query : IsOfQuery run.status
    of_query =
        of_query_but run.status
        (λ e. (let x = rejected_means e in query_or_check file text budget x.2.0 x.2.1 form x.2.2))
        (λ e. (let x = cert_refused_means e in query_or_check file text budget x.1.0 x.1.1 form x.1.2))

  pub query_proved : AnswerStandsBelow run
  query_proved file text budget form = answer_stands file text budget form
