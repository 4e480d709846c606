-- A search: its words, that what was read and searched is what it answers, and what is said of that.
use Rattle.std.proofs.Common.{◌≡◌, ℕ, ◌≤◌, List, [], ◌∷◌, Option, Result, Ok, Err, codes, inl, inr, refl, sym, ap, ap₂, ◌∙◌, subst, subst₂, arith}
use Rattle.std.specs.Prelude.{IfSome}
use Rattle.rewriting.specs.Rules.{System}
use Rattle.certificates.specs.Certificates.{Certificate}
use Rattle.valid_certificates.specs.Certificates.{IsValid}
use Rattle.cc_count.specs.Counts.{Counts}
use Rattle.first_found.specs.Spaces.{IsBarren, IsDearer}
use Rattle.term_core.specs.declared.terms.NoMemory.{NoMemory}
use Rattle.cert_model.specs.CertificateView.{certificate_view}
use Rattle.search_spaces.specs.Texts.{HasText}
use Rattle.search_spaces.specs.Laws.{IsSearchable}
use Rattle.search_answers.specs.Answers.{Searches, IfFound, IfNothing}
use Rattle.portfolio.specs.Answers.{outcome_ending}
use Rattle.proof_spaces.specs.Proofs.{proof_space, pruned_proof_space}
use Rattle.proof_spaces.specs.Endings.{IsTooLittle, MayProofEnd}
use Rattle.proof_spaces.specs.Laws.{ProofSpacesAreSearchable, PrunedProofsAreProofs}
use Rattle.portfolio.specs.declared.Outcome.{Outcome}
use Rattle.portfolio.specs.declared.Outcome.TheVariants.{Found, Exhausted, Spent}
use Rattle.cops_names.specs.NameTable.{NameTable}
use Rattle.cert_check.specs.Kinds.{verdict_of}
use Rattle.run_parts.specs.Devices.{ShelfRun, HasFailed}
use Rattle.run_parts.specs.Bytes.{told_or_any, bytes_of, SpellsSystem}
use Rattle.run_parts.proofs.Numbers.{same_budget}
use Rattle.concon_run.specs.Run.{Run}
use Rattle.concon_run.specs.Said.{Said, IsSaidIfMemory, Tells, TellsIfMemory}
use Rattle.concon_run.specs.Verdicts.{IsShown}
use Rattle.concon_run.specs.Files.{SystemAnswers, no_system_said}
use Rattle.concon_run.specs.Prove.{IsProve, SearchOutcome, bad_file, found, over_budget, exhausted, HoldsNone, SearchComesTo, Spaces, SearchMustComeTo, said_of_search, ProveAnswer}
use Rattle.concon_run.specs.Prove.{searched, file_unread, said_of_prove, IsProveAnswer, CalmlyMustComeTo}
use Rattle.concon_run.specs.Proving.{SearchAnswers, outcome_of, prove_answer}
use Rattle.concon_run.specs.Replies.{said_if_any}
use Rattle.concon_run.specs.declared.files.NoSystem.{NoSystem}
use Rattle.concon_run.specs.declared.prove.NoOutcome.TheVariants as no_outcome
use Rattle.concon_run.proofs.Letters.{first_letter}
use Rattle.concon_run.proofs.OneSystem.{KnownSystems, Told, one_pair, spells_or_none, none_or_spells, one_refused}
use Rattle.concon_run.proofs.Unread.{given_none, no_system_is_said}

pub letter_of_prove : (words : List (List ℕ)) (file : List ℕ) (budget : ℕ) → IsProve words file budget → first_letter words ≡ 112
letter_of_prove words file budget (inl (e, b)) = ap first_letter e
letter_of_prove words file budget (inr (number, e, b)) = ap first_letter e

pub no_search : (words : List (List ℕ)) → ((file : List ℕ) → words ≡ codes "prove" ∷ file ∷ [] → ⊥) → ((file number : List ℕ) → words ≡ codes "prove" ∷ file ∷ codes "--budget" ∷ number ∷ [] → ⊥)
    → (file : List ℕ) (budget : ℕ) → IsProve words file budget → ⊥
no_search words none never file budget (inl (e, b)) = none file e
no_search words none never file budget (inr (number, e, b)) = never file number e

-- two searches that the words ask for are one
pub prove_once : (words : List (List ℕ)) (file other : List ℕ) (a b : ℕ) → IsProve words file a → IsProve words other b → (other ≡ file) × (b ≡ a)
prove_once words file other a b (inl (e, h)) (inl (f, k)) = (cc, k ∙ sym h)
prove_once words file other a b (inl (e, h)) (inr (number, f, k)) = absurd (cc)
prove_once words file other a b (inr (number, e, h)) (inl (f, k)) = absurd (cc)
prove_once words file other a b (inr (number, e, h)) (inr (numeral, f, k)) = (cc, same_budget number numeral a b (cc) h k)

-- how the search ended is what it answers; what is found shows what it is for
module _ (names : NameTable) (sys : System) (law : IsSearchable sys (proof_space names sys)) (shows : (c : Certificate) → HasText names c → IsValid sys c → IsShown sys c (verdict_of c)) where
  pub ended : (units : ℕ) (before after : Counts) → before.left ≡ units → (r : Result Outcome NoMemory) → Searches outcome_ending (MayProofEnd names sys) before after r
      → IfFound outcome_ending r (HasText names)
      → IfNothing outcome_ending r (HoldsNone names sys) → SearchAnswers sys names units r
  ended units before after all (Ok (Found c)) (paid, spends, (n, f, le)) text none =
      let valid = (law.searched.held (certificate_view c) n f).1 in
      (record { price = n; first = f; valid = valid }, shows (certificate_view c) text valid)
  ended units before after all (Ok Exhausted) h text none = none
  ended units before after all (Ok Spent) (paid, spends, (e, less)) text none = subst (IsTooLittle names sys) all less
  ended units before after all (Err e) h text none = tt

module _ (shelf : ShelfRun) (file : List ℕ) (budget : ℕ) where
  -- the file gives no system
  pub file_gives_none : (e : NoSystem) → SystemAnswers (bytes_of shelf file) (HasFailed shelf file) (Err e) → IfSome (prove_answer (Err (no_outcome.NoSystem e))) (IsProveAnswer shelf file budget)
  file_gives_none e h =
      given_none (IsProveAnswer shelf file budget) shelf file file_unread (λ r. searched (bad_file r)) (λ failed. record { cause = failed; right = tt })
      (λ r refused. record { cause = refused; right = tt }) e h

  -- it gives one, and the search ends so
  pub search_answered : (sys : System) (names : NameTable) → SpellsSystem (bytes_of shelf file) sys names → (o : Outcome) → SearchAnswers sys names budget (Ok o)
      → IsProveAnswer shelf file budget (searched (outcome_of names o))
  search_answered sys names f (Found c) h = record { cause = (sys, f, h.0); right = (sys, f, h.1) }
  search_answered sys names f Exhausted h = record { cause = (sys, names, f, h); right = tt }
  search_answered sys names f Spent h = record { cause = (sys, names, f, h); right = tt }

-- what is said is what the answer says
pub no_system_says : (file : List ℕ) (e : NoSystem) (said : Said) → IsSaidIfMemory (no_system_said file e) said
    → IsSaidIfMemory (said_if_any (said_of_prove file) (prove_answer (Err (no_outcome.NoSystem e)))) said
no_system_says file e said h = no_system_is_said (said_of_prove file) file file_unread (λ r. searched (bad_file r)) refl (λ r. refl) e said h

-- what is known of spaces in which prices are counted, beside those that are searched
pub record ArePriced (spaces : Spaces) : Type 0 where
  -- what is found, is held and valid
  pub held : (names : NameTable) (sys : System) (c : Certificate) (n : ℕ) → HoldsNone names sys → (spaces names sys).Finds c n → ⊥
  pub none : (names : NameTable) (sys : System) (c : Certificate) (n : ℕ) → HoldsNone names sys → (proof_space names sys).Finds c n → ⊥
  pub same : (names : NameTable) (sys : System) (c d : Certificate) (n m : ℕ) → (spaces names sys).Finds c n → (proof_space names sys).Finds d m → c ≡ d
  pub dearer : (names : NameTable) (sys : System) (budget : ℕ) → IsTooLittle names sys budget → IsDearer (spaces names sys) budget

module _ (whole : ProofSpacesAreSearchable) (pruned : PrunedProofsAreProofs) where
  whole_held : (names : NameTable) (sys : System) (c : Certificate) (n : ℕ) → HoldsNone names sys → (proof_space names sys).Finds c n → ⊥
  whole_held names sys c n none f = let h = (whole names sys).searched.held c n f in none c h.0 h.1

  whole_same : (names : NameTable) (sys : System) (c d : Certificate) (n m : ℕ) → (proof_space names sys).Finds c n → (proof_space names sys).Finds d m → c ≡ d
  whole_same names sys c d n m f g = ((whole names sys).finds_once c d n m f g).1

  pub whole_priced : ArePriced proof_space
  whole_priced = record { held = whole_held; none = whole_held; same = whole_same; dearer = λ names sys budget less. less.price }

  pub pruned_priced : ArePriced pruned_proof_space
  pruned_priced =
      record {
        held = λ names sys c n none f. let there = pruned names sys c n f in whole_held names sys c there.0 none there.1;
        none = whole_held;
        same = λ names sys c d n m f g. let there = pruned names sys c n f in whole_same names sys c d there.0 m there.1 g;
        dearer = λ names sys budget less. less.pruned;
      }

module _ (k : KnownSystems) (spaces : Spaces) (priced : ArePriced spaces) (told : Option (List ℕ)) (budget : ℕ) where
  within_or_dearer : (names : NameTable) (sys : System) (c : Certificate) (n : ℕ) → (spaces names sys).Finds c n → n ≤ budget → IsTooLittle names sys budget → ⊥
  within_or_dearer names sys c n f le less = let more = priced.dearer names sys budget less n (inl (c, f)) in omega (arith, more)

  searched_or_dearer : (names : NameTable) (sys : System) (n : ℕ) → HoldsNone names sys → (spaces names sys).Costs n → n ≤ budget → IsTooLittle names sys budget → ⊥
  searched_or_dearer names sys n none costs le less =
      let barren : IsBarren (spaces names sys) = λ c m f. priced.held names sys c m none f in
      let more = priced.dearer names sys budget less n (inr (barren, costs)) in omega (arith, more)

  same_found : (names others : NameTable) (sys other : System) (c d : Certificate) (n m : ℕ) → names ≡ others → sys ≡ other → (spaces names sys).Finds c n → (proof_space others other).Finds d m
      → found names c ≡ found others d
  same_found names others sys other c d n m e f x y =
      ap₂ found e (priced.same others other c d n m (subst₂ (λ t s. (spaces t s).Finds c n) e f x) y)

  pair : (sys other : System) (names others : NameTable) → SpellsSystem (Told told) sys names → SpellsSystem (told_or_any told) other others → (sys ≡ other) × (names ≡ others)
  pair = one_pair k told

  one_search : (m o : SearchOutcome) → SearchMustComeTo spaces (Told told) budget m → SearchComesTo (told_or_any told) budget o → m ≡ o
  one_search (bad_file r) (bad_file s) x y = ap bad_file (one_refused k told r s x y)
  one_search (bad_file r) (found others d) x y = absurd (none_or_spells k told y.0 others r x y.1)
  one_search (bad_file r) over_budget x y = absurd (none_or_spells k told y.0 y.1 r x y.2)
  one_search (bad_file r) exhausted x y = absurd (none_or_spells k told y.0 y.1 r x y.2)
  one_search (found names c) (bad_file s) x y = absurd (spells_or_none k told x.0 names s x.2 y)
  one_search (found names c) (found others d) x y =
      let same = pair x.0 y.0 names others x.2 y.1 in same_found names others x.0 y.0 c d x.1 y.2.price same.1 same.0 x.3 y.2.first
  one_search (found names c) over_budget x y =
      let same = pair x.0 y.0 names y.1 x.2 y.2 in
      absurd (within_or_dearer y.1 y.0 c x.1 (subst₂ (λ t s. (spaces t s).Finds c x.1) same.1 same.0 x.3) x.4 y.3)
  one_search (found names c) exhausted x y =
      let same = pair x.0 y.0 names y.1 x.2 y.2 in
      absurd (priced.held y.1 y.0 c x.1 y.3 (subst₂ (λ t s. (spaces t s).Finds c x.1) same.1 same.0 x.3))
  one_search exhausted (bad_file s) x y = absurd (spells_or_none k told x.0 x.1 s x.3 y)
  one_search exhausted (found others d) x y =
      let same = pair x.0 y.0 x.1 others x.3 y.1 in
      absurd (priced.none others y.0 d y.2.price (subst₂ HoldsNone same.1 same.0 x.4) y.2.first)
  one_search exhausted over_budget x y =
      let same = pair x.0 y.0 x.1 y.1 x.3 y.2 in
      absurd (searched_or_dearer y.1 y.0 x.2 (subst₂ HoldsNone same.1 same.0 x.4) (subst₂ (λ t s. (spaces t s).Costs x.2) same.1 same.0 x.5) x.6 y.3)
  one_search exhausted exhausted x y = refl
  one_search over_budget o x y = absurd x

-- where a search can come to one thing alone and nothing fails, that is the answer
pub prove_exactly : KnownSystems → (spaces : Spaces) → ArePriced spaces → (run : Run) (file : List ℕ) (budget : ℕ) (outcome : SearchOutcome) → CalmlyMustComeTo spaces run file budget outcome
    → (answer : ProveAnswer) → IsProveAnswer run.shelf file budget answer → Tells run (said_of_prove file answer) → TellsIfMemory run (said_of_search file outcome)
prove_exactly k spaces priced run file budget outcome calm (searched o) h told =
    inl (subst (λ p. Tells run (said_of_search file p)) (sym (one_search k spaces priced (run.shelf.contents file) budget outcome o calm.1 h.cause)) told)
prove_exactly k spaces priced run file budget outcome calm file_unread h told = absurd (calm.2 h.cause)
