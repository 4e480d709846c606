-- A test: its words; nothing but memory can stand in its way, and it counts what it has to.
use Rattle.std.proofs.Common.{◌≡◌, ◌⊎◌, ◌+◌, ◌*◌, ◌<◌, ◌≤◌, ◌++◌, ℕ, zero, suc, List, [], map, length, Ok, refl, sym, ap, ap₂, ◌∙◌, subst, inl, inr, decimal, arith}
use Rattle.std.specs.List.{range_with_len}
use Rattle.std.specs.Prelude.{unwrap_or}
use Rattle.std.proofs.lemmas.List.{length-map}
use Rattle.std.proofs.lemmas.List.FromFn.{length-map-range_with_len}
use Rattle.rewriting.specs.Rules.{System}
use Rattle.certificates.specs.Certificates as math
use Rattle.valid_certificates.specs.Entries.{ArePairsShort}
use Rattle.term_core.specs.RuleView.{rule_view}
use Rattle.term_core.specs.declared.systems.Rule.{Rule}
use Rattle.cops_names.specs.NameTable.{NameTable}
use Rattle.file_text.specs.Tokens.{bad_byte}
use Rattle.cops_read.specs.Answers.{NeverSystemAndRefusal, IsRefusedFor, cause_of_count}
use Rattle.cops_read.specs.File.{IsFile, no_tokens, no_meaning}
use Rattle.cops_read.specs.declared.errors.ReadError.{ReadError}
use Rattle.cops_read.specs.declared.errors.ReadError.TheVariants as unread
use Rattle.cops_write.specs.Text.{system_text}
use Rattle.refusal_texts.specs.Files.{file_error_cause}
use Rattle.cert_grammar.specs.Prelude.{second_version, certificate_text, CanBeSpelt, IsCertificateText}
use Rattle.cert_sharing.specs.SharedLaws.{NeverBoth}
use Rattle.cert_model.specs.CertificateView.{certificate_view}
use Rattle.cert_model.specs.declared.model.Certificate.{Certificate}
use Rattle.cert_words.specs.CertRefusals.{IsRefusedAs}
use Rattle.cert_words.specs.declared.error.CertError.{CertError}
use Rattle.cert_words.specs.declared.error.CertError.TheVariants as bad
use Rattle.cert_check.specs.Kinds.{verdict_of, CanBeJudged}
use Rattle.cert_check.specs.declared.Verdict.{Verdict}
use Rattle.cc_count.specs.Counts.{Counts, Spends}
use Rattle.search_spaces.specs.Entries.{entry_for}
use Rattle.search_spaces.specs.Ortho.{ortho_space}
use Rattle.search_answers.specs.Answers.{Searches, IfFound}
use Rattle.proof_spaces.specs.Endings.{MayProofEnd}
use Rattle.portfolio.specs.Answers.{outcome_ending}
use Rattle.portfolio.specs.declared.Outcome.{Outcome}
use Rattle.portfolio.specs.declared.Outcome.TheVariants.{Found, Exhausted, Spent}
use Rattle.generated_systems.specs.Generated.{generated, generated_names}
use Rattle.generated_systems.specs.Certificate.{overlap_for, conflict, generated_certificate}
use Rattle.generated_systems.specs.Laws.{CertificatesHaveTexts, CertificatesAreFound}
use Rattle.generator.proofs.Sound.{rule_count}
use Rattle.run_parts.specs.Words.{IsBudget}
use Rattle.run_parts.proofs.Numbers.{same_budget}
use Rattle.concon_run.specs.Said.{Said, IsSaidIfMemory}
use Rattle.concon_run.specs.Verdicts.{status_of}
use Rattle.concon_run.specs.Selftest.{IsSelftest, said_of_test, pair_count, tested_line, IsPassed}
use Rattle.concon_run.specs.declared.selftest.Tested.{Tested}
use Rattle.concon_run.proofs.Letters.{first_letter}

-- what was written of a generated system spells it
pub written_file : (n : ℕ) (start bytes : List ℕ) (made : System) (names : NameTable) → start ≡ [] → bytes ≡ start ++ system_text names made → made ≡ generated n → names ≡ generated_names n
    → IsFile (system_text (generated_names n) (generated n)) (generated n) (generated_names n) → IsFile bytes (generated n) (generated_names n)
written_file n start bytes made names none text e f file =
    subst (λ b. IsFile b (generated n) (generated_names n)) (sym (text ∙ ap (λ (s : List ℕ). s ++ system_text names made) none ∙ ap₂ system_text f e)) file

pub written_cert : (names : NameTable) (c : math.Certificate) (start bytes : List ℕ) → start ≡ [] → bytes ≡ start ++ certificate_text second_version names c
    → IsCertificateText names (certificate_text second_version names c) c → IsCertificateText names bytes c
written_cert names c start bytes none text spelt =
    subst (λ b. IsCertificateText names b c) (sym (text ∙ ap (λ (s : List ℕ). s ++ certificate_text second_version names c) none)) spelt

-- a text that spells a system is not refused, and nor is that of a certificate
pub never_refused : NeverSystemAndRefusal → (bytes : List ℕ) (sys : System) (names : NameTable) → IsFile bytes sys names → (e : ReadError) → (e ≡ unread.NoMemory → ⊥) → IsRefusedFor bytes e → ⊥
never_refused never bytes sys names file unread.NoMemory other h = other refl
never_refused never bytes sys names file (unread.TooMany what limit at) other h = never bytes sys names (no_meaning (cause_of_count what)) at file h.0
never_refused never bytes sys names file e other h = let r = unwrap_or (file_error_cause e) (no_tokens bad_byte, 0) in never bytes sys names r.0 r.1 file h

pub never_refused_cert : NeverBoth → (names : NameTable) (bytes : List ℕ) (c : math.Certificate) → IsCertificateText names bytes c → (e : CertError) → (e ≡ bad.NoMemory → ⊥)
    → IsRefusedAs names bytes e → ⊥
never_refused_cert never names bytes c text bad.NoMemory other h = other refl
never_refused_cert never names bytes c text _ other h = never names bytes c _ _ text h

-- a search that the first space has a certificate for, at a price within the budget
module _ (names : NameTable) (sys : System) (before after : Counts) (o : Outcome) where
  module _ (c : math.Certificate) (n : ℕ) (finds : (ortho_space names sys).Finds c n) (h : Searches outcome_ending (MayProofEnd names sys) before after (Ok o)) where
    pub never_exhausted : o ≡ Exhausted → ⊥
    never_exhausted e = go (subst (λ p. Searches outcome_ending (MayProofEnd names sys) before after (Ok p)) e h)
      where
        go : Searches outcome_ending (MayProofEnd names sys) before after (Ok Exhausted) → ⊥
        go (paid, spends, (barren, costs)) = barren c n (inl (inl (inl finds)))

    pub never_spent : before.left ≡ 1000000 → n ≤ 1000000 → o ≡ Spent → ⊥
    never_spent left enough e = go (subst (λ p. Searches outcome_ending (MayProofEnd names sys) before after (Ok p)) e h)
      where
        go : Searches outcome_ending (MayProofEnd names sys) before after (Ok Spent) → ⊥
        go (paid, spends, (all, less)) = let more = less.price n (inl (c, inl (inl (inl finds)))) in omega (arith, more)

  pub found_first : (found : Certificate) → o ≡ Found found → before.spent ≡ 0 → (spent : ℕ) → spent ≡ after.spent
      → ((c : math.Certificate) (n : ℕ) → (ortho_space names sys).Finds c n → IfFound outcome_ending (Ok o) (λ d. (d ≡ c) × Spends before n after))
      → (c : math.Certificate) (n : ℕ) → (ortho_space names sys).Finds c n → (certificate_view found ≡ c) × (spent ≡ n)
  found_first found e none spent is first c n finds =
      let h = subst (λ p. IfFound outcome_ending (Ok p) (λ d. (d ≡ c) × Spends before n after)) e (first c n finds) in
      let all = h.1.spent in
      (h.0, omega (arith, all))

-- the generated system's certificate is found, has a text, and can be judged
module _ (names : NameTable) (n : ℕ) (most : n ≤ 200) where
  pub certificate_found : CertificatesAreFound → (sys : System) → sys ≡ generated n → (ortho_space names sys).Finds (generated_certificate n) (3 * n)
  certificate_found law sys e = subst (λ s. (ortho_space names s).Finds (generated_certificate n) (3 * n)) (sym e) (law names n (omega arith))

  pub certificate_spelt : CertificatesHaveTexts → (c : math.Certificate) → c ≡ generated_certificate n → CanBeSpelt second_version names c
  certificate_spelt law c e = subst (CanBeSpelt second_version names) (sym e) (law names n (omega arith)).0

entries_short : (a m : ℕ) → ArePairsShort (map (λ k. entry_for (overlap_for k) conflict) (range_with_len a m))
entries_short a zero = tt
entries_short a (suc m) = (tt, entries_short (a + 1) m)

pub certificate_judged : (n : ℕ) (sys : System) (c : math.Certificate) → c ≡ generated_certificate n → CanBeJudged sys c
certificate_judged n sys c e = subst (CanBeJudged sys) (sym e) (entries_short 0 n)

-- what is counted
pub passed : (n : ℕ) (sys : System) (rules : List Rule) (found cert : math.Certificate) (t : Tested) → sys ≡ generated n → map rule_view rules ≡ sys.rules → cert ≡ found
    → found ≡ generated_certificate n
    → t.rules ≡ length rules → t.pairs ≡ pair_count cert → t.verdict ≡ verdict_of cert → t.steps ≡ 3 * n → IsPassed n t
passed n sys rules found cert t e view same is counted entries shows spent =
    record {
      rules = counted ∙ sym (length-map rules rule_view) ∙ ap length (view ∙ ap (λ (s : System). s.rules) e) ∙ rule_count 0 n;
      pairs = entries ∙ ap pair_count (same ∙ is) ∙ length-map-range_with_len (λ k. entry_for (overlap_for k) conflict) 0 n;
      verdict = shows ∙ ap verdict_of (same ∙ is);
      steps = spent;
    }

abbrev said_with : ℕ → ℕ → ℕ → Verdict → ℕ → Said
said_with n rules pairs verdict steps =
    record { status = status_of verdict; out = tested_line n (record { rules = rules; pairs = pairs; verdict = verdict; steps = steps }); err = [] }

pub passed_said : (n : ℕ) (t : Tested) (said : Said) → IsPassed n t → IsSaidIfMemory (said_with n t.rules t.pairs t.verdict t.steps) said → IsSaidIfMemory (said_of_test n) said
passed_said n t said p h =
    subst (λ w. IsSaidIfMemory w said) (ap₂ (λ r q. said_with n r q t.verdict t.steps) p.rules p.pairs ∙ ap₂ (said_with n (4 * n) n) p.verdict p.steps) h

pub letter_of_test : (words : List (List ℕ)) (n : ℕ) → IsSelftest words n → first_letter words ≡ 115
letter_of_test words n h = ap first_letter h.1

-- the number of a test is in decimal, as that of a budget
as_budget : (word : List ℕ) (n : ℕ) → word ≡ decimal n → n ≤ 200 → IsBudget word n
as_budget word n e most = (e, omega arith)

pub other_test : (word : List ℕ) (m : ℕ) → IsBudget word m → (m ≡ 0) ⊎ ((m ≡ 0 → ⊥) × (200 < m)) → (n : ℕ) → word ≡ decimal n → 1 ≤ n → n ≤ 200 → ⊥
other_test word m b (inl none) n e least most = let same = same_budget word word n m refl (as_budget word n e most) b in omega (arith, same)
other_test word m b (inr (some, more)) n e least most = let same = same_budget word word n m refl (as_budget word n e most) b in omega (arith, same)

-- two tests that the words ask for are one
pub test_once : (words : List (List ℕ)) (n m : ℕ) → IsSelftest words n → IsSelftest words m → m ≡ n
test_once words n m (number, e, h, least, most) (numeral, f, k, low, high) = same_budget number numeral n m (cc) (as_budget number n h most) (as_budget numeral m k high)
