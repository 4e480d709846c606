-- A text that begins with Y is that of a YES, and one that begins with N that of a NO.
use Rattle.std.proofs.Common.{◌≡◌, ◌⊎◌, ℕ, zero, suc, List, [], ◌∷◌, ◌++◌, take, Option, Some, refl, sym, ap, subst, codes, ◌∙◌, inl, inr, arith}
use Rattle.std.proofs.lemmas.List.{append-nil, append_cancel_left}
use Rattle.cc_io.specs.Bytes.{appended}
use Rattle.certificates.specs.Certificates.{Certificate, ortho_certificate, quasi_certificate, peak_certificate, simplified_certificate}
use Rattle.cert_grammar.specs.Prelude.{second_version, answer_line, certificate_text}
use Rattle.cert_check.specs.Kinds.{verdict_of}
use Rattle.run_parts.specs.Devices.{SinkRun}
use Rattle.run_parts.specs.Taken.{TakesWhole, TakesPart}
use Rattle.concon_run.specs.Verdicts.{IsShown}
use Rattle.cert_check.specs.declared.Verdict.TheVariants.{Yes, No}
use Rattle.concon_run.specs.Run.{Run}
use Rattle.concon_run.specs.Said.{Said, Tells, no_memory_said}
use Rattle.concon_run.specs.Check.{IsCheck, no_system, no_certificate, rejected, shown, CheckAnswer, checked, file_unread, cert_unread, said_of_check, IsCheckAnswer}
use Rattle.concon_run.specs.Prove.{IsProve, bad_file, found, over_budget, exhausted, ProveAnswer, searched, said_of_prove, IsProveAnswer}
use Rattle.concon_run.specs.Prove as search
use Rattle.concon_run.specs.Query.{IsQuery, bad_query, answer_found, QueryReply, queried, query_unread, said_of_query, IsQueryReply, NamesNeverMet, NamesMet}
use Rattle.concon_run.specs.Query as asking
use Rattle.query_space.specs.Items.{never_met, met_by}
use Rattle.concon_run.specs.Commands.{Command, check, prove, selftest, query, IsCommand, AnswerTo, said_to, IsAnswerTo, IsSaidFor, IsAnswered}
use Rattle.concon_run.specs.Rows.{NamesConfluentSystem, NamesPeakApart, YesIsSound, NoIsSound}
use Rattle.concon_run.proofs.Letters.{begins}

-- a front begins as the whole does
front_begins : (n : ℕ) (xs t : List ℕ) (x : ℕ) → take n xs ≡ x ∷ t → (rest : List ℕ) × (xs ≡ x ∷ rest)
front_begins zero xs t x e = absurd cc
front_begins (suc n) [] t x e = absurd cc
front_begins (suc n) (y ∷ ys) t x e = (ys, cc)

-- the line of an answer is that of the verdict
says : (c : Certificate) → ((verdict_of c ≡ Yes) × (answer_line c ≡ codes "YES\n")) ⊎ ((verdict_of c ≡ No) × (answer_line c ≡ codes "NO\n"))
says (ortho_certificate pairs) = inl (refl, refl)
says (quasi_certificate measure pairs) = inl (refl, refl)
says (peak_certificate peak) = inr (refl, refl)
says (simplified_certificate steps c) = says c

-- an answer whose text for out begins with N; texts for out begin with Y, N, M, R or s
module _ (run : Run) (rest : List ℕ) where
  check_by_n : (file cert : List ℕ) → IsCheck run.words file cert → (a : CheckAnswer) → IsCheckAnswer run.shelf file cert a → (said_of_check file cert a).out ≡ 78 ∷ rest → NamesPeakApart run
  check_by_n file cert form (checked (no_system refusal)) h e = absurd cc
  check_by_n file cert form (checked (no_certificate refusal)) h e = absurd cc
  check_by_n file cert form (checked (rejected names reason)) h e = absurd (begins 82 78 _ rest e (λ q. omega (arith, q)))
  check_by_n file cert form (checked (shown Yes)) h e = absurd (begins 89 78 _ rest e (λ q. omega (arith, q)))
  check_by_n file cert form (checked (shown No)) h e = inl (file, cert, form, h.right)
  check_by_n file cert form file_unread h e = absurd cc
  check_by_n file cert form cert_unread h e = absurd cc

  prove_by_n : (file : List ℕ) (budget : ℕ) → IsProve run.words file budget → (a : ProveAnswer) → IsProveAnswer run.shelf file budget a → (said_of_prove file a).out ≡ 78 ∷ rest → NamesPeakApart run
  prove_by_n file budget form (searched (bad_file refusal)) h e = absurd cc
  prove_by_n file budget form (searched (found names (ortho_certificate pairs))) h e = absurd (begins 89 78 _ rest e (λ q. omega (arith, q)))
  prove_by_n file budget form (searched (found names (quasi_certificate measure pairs))) h e = absurd (begins 89 78 _ rest e (λ q. omega (arith, q)))
  prove_by_n file budget form (searched (found names (simplified_certificate steps c))) h e = by (says c)
    where
      by : ((verdict_of c ≡ Yes) × (answer_line c ≡ codes "YES\n")) ⊎ ((verdict_of c ≡ No) × (answer_line c ≡ codes "NO\n")) → NamesPeakApart run
      by (inl a) = absurd (begins 89 78 _ rest (sym (ap (λ (w : List ℕ). w ++ certificate_text second_version names (simplified_certificate steps c)) a.1) ∙ e) (λ q. omega (arith, q)))
      by (inr a) = inr (file, budget, form, (h.right.0, names, simplified_certificate steps c, h.right.1, subst (IsShown h.right.0 (simplified_certificate steps c)) a.0 h.right.2))
  prove_by_n file budget form (searched (found names (peak_certificate peak))) h e = inr (file, budget, form, (h.right.0, names, peak_certificate peak, h.right.1, h.right.2))
  prove_by_n file budget form (searched over_budget) h e = absurd (begins 77 78 _ rest e (λ q. omega (arith, q)))
  prove_by_n file budget form (searched exhausted) h e = absurd (begins 77 78 _ rest e (λ q. omega (arith, q)))
  prove_by_n file budget form search.file_unread h e = absurd cc

  query_by_n : (file text : List ℕ) (budget : ℕ) → IsQuery run.words file text budget → (r : QueryReply) → IsQueryReply run.shelf file text budget r
      → (said_of_query file text r).out ≡ 78 ∷ rest → NamesMet run
  query_by_n file text budget form (queried (asking.bad_file refusal)) h e = absurd cc
  query_by_n file text budget form (queried (bad_query refusal)) h e = absurd cc
  query_by_n file text budget form (queried (answer_found names vs (never_met evidence))) h e = absurd (begins 89 78 _ rest e (λ q. omega (arith, q)))
  query_by_n file text budget form (queried (answer_found names vs (met_by ts ds))) h e =
      (file, text, budget, form, (h.right.0, names, h.right.1, vs, h.right.2, (ts, ds, h.right.3)))
  query_by_n file text budget form (queried asking.over_budget) h e = absurd (begins 77 78 _ rest e (λ q. omega (arith, q)))
  query_by_n file text budget form (queried asking.exhausted) h e = absurd (begins 77 78 _ rest e (λ q. omega (arith, q)))
  query_by_n file text budget form asking.file_unread h e = absurd cc
  query_by_n file text budget form query_unread h e = absurd cc

  answer_by_n : (command : Command) → IsCommand run.words command → (a : AnswerTo command) → IsAnswerTo run.shelf command a → (said_to command a).out ≡ 78 ∷ rest → NamesPeakApart run ⊎ NamesMet run
  answer_by_n (check file cert) form a h e = inl (check_by_n file cert form a h e)
  answer_by_n (prove file budget) form a h e = inl (prove_by_n file budget form a h e)
  answer_by_n (selftest n) form a h e = absurd (begins 115 78 _ rest e (λ q. omega (arith, q)))
  answer_by_n (query file text budget) form a h e = inr (query_by_n file text budget form a h e)

  -- the same for Y
  check_by_y : (file cert : List ℕ) → IsCheck run.words file cert → (a : CheckAnswer) → IsCheckAnswer run.shelf file cert a → (said_of_check file cert a).out ≡ 89 ∷ rest → NamesConfluentSystem run
  check_by_y file cert form (checked (no_system refusal)) h e = absurd cc
  check_by_y file cert form (checked (no_certificate refusal)) h e = absurd cc
  check_by_y file cert form (checked (rejected names reason)) h e = absurd (begins 82 89 _ rest e (λ q. omega (arith, q)))
  check_by_y file cert form (checked (shown Yes)) h e = (file, inl (cert, form), h.right)
  check_by_y file cert form (checked (shown No)) h e = absurd (begins 78 89 _ rest e (λ q. omega (arith, q)))
  check_by_y file cert form file_unread h e = absurd cc
  check_by_y file cert form cert_unread h e = absurd cc

  prove_by_y : (file : List ℕ) (budget : ℕ) → IsProve run.words file budget → (a : ProveAnswer) → IsProveAnswer run.shelf file budget a
      → (said_of_prove file a).out ≡ 89 ∷ rest → NamesConfluentSystem run
  prove_by_y file budget form (searched (bad_file refusal)) h e = absurd cc
  prove_by_y file budget form (searched (found names (ortho_certificate pairs))) h e = (file, inr (budget, form), (h.right.0, names, h.right.1, h.right.2))
  prove_by_y file budget form (searched (found names (quasi_certificate measure pairs))) h e = (file, inr (budget, form), (h.right.0, names, h.right.1, h.right.2))
  prove_by_y file budget form (searched (found names (simplified_certificate steps c))) h e = by (says c)
    where
      by : ((verdict_of c ≡ Yes) × (answer_line c ≡ codes "YES\n")) ⊎ ((verdict_of c ≡ No) × (answer_line c ≡ codes "NO\n")) → NamesConfluentSystem run
      by (inl a) = (file, inr (budget, form), (h.right.0, names, h.right.1, subst (IsShown h.right.0 (simplified_certificate steps c)) a.0 h.right.2))
      by (inr a) = absurd (begins 78 89 _ rest (sym (ap (λ (w : List ℕ). w ++ certificate_text second_version names (simplified_certificate steps c)) a.1) ∙ e) (λ q. omega (arith, q)))
  prove_by_y file budget form (searched (found names (peak_certificate peak))) h e = absurd (begins 78 89 _ rest e (λ q. omega (arith, q)))
  prove_by_y file budget form (searched over_budget) h e = absurd (begins 77 89 _ rest e (λ q. omega (arith, q)))
  prove_by_y file budget form (searched exhausted) h e = absurd (begins 77 89 _ rest e (λ q. omega (arith, q)))
  prove_by_y file budget form search.file_unread h e = absurd cc

  query_by_y : (file text : List ℕ) (budget : ℕ) → IsQuery run.words file text budget → (r : QueryReply) → IsQueryReply run.shelf file text budget r
      → (said_of_query file text r).out ≡ 89 ∷ rest → NamesNeverMet run
  query_by_y file text budget form (queried (asking.bad_file refusal)) h e = absurd cc
  query_by_y file text budget form (queried (bad_query refusal)) h e = absurd cc
  query_by_y file text budget form (queried (answer_found names vs (never_met evidence))) h e =
      (file, text, budget, form, (h.right.0, names, h.right.1, vs, h.right.2, h.right.3))
  query_by_y file text budget form (queried (answer_found names vs (met_by ts ds))) h e = absurd (begins 78 89 _ rest e (λ q. omega (arith, q)))
  query_by_y file text budget form (queried asking.over_budget) h e = absurd (begins 77 89 _ rest e (λ q. omega (arith, q)))
  query_by_y file text budget form (queried asking.exhausted) h e = absurd (begins 77 89 _ rest e (λ q. omega (arith, q)))
  query_by_y file text budget form asking.file_unread h e = absurd cc
  query_by_y file text budget form query_unread h e = absurd cc

  answer_by_y : (command : Command) → IsCommand run.words command → (a : AnswerTo command) → IsAnswerTo run.shelf command a → (said_to command a).out ≡ 89 ∷ rest
      → NamesConfluentSystem run ⊎ NamesNeverMet run
  answer_by_y (check file cert) form a h e = inl (check_by_y file cert form a h e)
  answer_by_y (prove file budget) form a h e = inl (prove_by_y file budget form a h e)
  answer_by_y (selftest n) form a h e = absurd (begins 115 89 _ rest e (λ q. omega (arith, q)))
  answer_by_y (query file text budget) form a h e = inr (query_by_y file text budget form a h e)

  -- what is said, by its text for out
  module _ (x : ℕ) (G : Type 0) (go : (command : Command) → IsCommand run.words command → (a : AnswerTo command) → IsAnswerTo run.shelf command a → (said_to command a).out ≡ x ∷ rest → G) where
    said_by : (said : Said) → IsSaidFor run.words run.shelf said → said.out ≡ x ∷ rest → G
    said_by said (inl (none, asked, same)) e = (let empty : [] ≡ x ∷ rest = sym (ap (λ (s : Said). s.out) same) ∙ e in absurd cc)
    said_by said (inr (command, form, says)) e = by_case says.says
      where
        by_case : ((a : AnswerTo command) × IsAnswerTo run.shelf command a × (said ≡ said_to command a)) ⊎ (said ≡ no_memory_said) → G
        by_case (inl (a, good, same)) = go command form a good (sym (ap (λ (s : Said). s.out) same) ∙ e)
        by_case (inr same) = (let empty : [] ≡ x ∷ rest = sym (ap (λ (s : Said). s.out) same) ∙ e in absurd cc)

module _ (x : ℕ) where
  grown : (before text all : List ℕ) (old new : Option (List ℕ)) → old ≡ Some before → new ≡ Some (before ++ x ∷ text) → new ≡ appended old all → all ≡ x ∷ text
  grown before text all old new o e w =
      let whole : Some (before ++ all) ≡ Some (before ++ x ∷ text) = sym (w ∙ ap (λ (x : Option (List ℕ)). appended x all) o) ∙ e in
      append_cancel_left before all (x ∷ text) cc

  -- nothing was written, and so nothing begins
  unwritten : (before text : List ℕ) (old new : Option (List ℕ)) → old ≡ Some before → new ≡ Some (before ++ x ∷ text) → new ≡ old → ⊥
  unwritten before text old new o e w =
      let same : Some (before ++ x ∷ text) ≡ Some before = sym e ∙ w ∙ o in
      let none : before ++ x ∷ text ≡ before ++ [] = cc (append-nil before) in
      let empty : x ∷ text ≡ [] = append_cancel_left before (x ∷ text) [] none in
      cc

  begins_with : (sink : SinkRun) (all before text : List ℕ) → sink.written_before ≡ Some before → sink.written_now ≡ Some (before ++ x ∷ text)
      → TakesWhole all sink ⊎ TakesPart all sink → (rest : List ℕ) × (all ≡ x ∷ rest)
  begins_with sink all before text o e (inl w) = (text, grown before text all sink.written_before sink.written_now o e w)
  begins_with sink all before text o e (inr (inl p)) = absurd (unwritten before text sink.written_before sink.written_now o e p.1)
  begins_with sink all before text o e (inr (inr p)) = front_begins p.1.0 all text x (grown before text (take p.1.0 all) sink.written_before sink.written_now o e p.1.2)

-- what the texts that out took say of the answer
module _ (run : Run) (h : IsAnswered run) where
  took : (x : ℕ) → Tells run h.0 → (before text : List ℕ) → run.out.written_before ≡ Some before → run.out.written_now ≡ Some (before ++ x ∷ text) → (rest : List ℕ) × (h.0.out ≡ x ∷ rest)
  took x (inl whole) before text o e = begins_with x run.out h.0.out before text o e (inl whole.1)
  took x (inr part) before text o e = begins_with x run.out h.0.out before text o e (inr part.1)

  pub no_is_sound : NoIsSound run
  no_is_sound (before, text, o, e) = let n = took 78 h.2 before text o e in said_by run n.0 78 (NamesPeakApart run ⊎ NamesMet run) (answer_by_n run n.0) h.0 h.1 n.1

  pub yes_is_sound : YesIsSound run
  yes_is_sound (before, text, o, e) = let y = took 89 h.2 before text o e in said_by run y.0 89 (NamesConfluentSystem run ⊎ NamesNeverMet run) (answer_by_y run y.0) h.0 h.1 y.1
