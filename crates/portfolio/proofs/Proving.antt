-- How a proof ends, from the ends of the searches of the system and of what its standard steps leave.
use Rattle.std.proofs.Common.{ℕ, ◌≡◌, ◌+◌, ◌≤◌, Bool, true, false, nat_eq, List, [], ◌∷◌, map, length, Vec, Global, Result, Ok, Err, inl, refl, sym, ap, ◌∙◌, subst, subst₂, arith, eqb-true, eq-eqb}
use Rattle.std.proofs.lemmas.List.{length-map, nil_from_length}
use Rattle.rewriting.specs.Rules.{System}
use Rattle.certificates.specs.Certificates.{Simplification, Certificate}
use Rattle.cert_model.specs.CertificateView.{simp_view, certificate_view}
use Rattle.cert_model.specs.declared.model.Simp.{Simp}
use Rattle.cert_model.specs.declared.model.Certificate as model
use Rattle.cops_names.specs.NameTable.{NameTable}
use Rattle.term_core.specs.declared.terms.NoMemory.{NoMemory}
use Rattle.valid_certificates.specs.Certificates.{IsValid}
use Rattle.validity.specs.declared.Search.{Search}
use Rattle.validity.specs.declared.Search.TheVariants as search
use Rattle.first_found.specs.Spaces.{Ending}
use Rattle.cc_count.specs.Counts.{Counts, Spends}
use Rattle.cc_count.proofs.Spending.{spends_both, kept_on}
use Rattle.search_spaces.specs.Laws.{IsSearchable}
use Rattle.search_spaces.specs.Texts.{HasText}
use Rattle.search_spaces.specs.Ortho.{ortho_space}
use Rattle.search_answers.specs.Answers.{Searches, ending_of, IfFound, IfNothing}
use Rattle.search_answers.proofs.OrElse.{or_else}
use Rattle.portfolio.specs.declared.behind.Behind.{Behind}
use Rattle.portfolio.specs.StepAnswers.{behind_ending, MayEndSimplified}
use Rattle.proof_spaces.specs.Endings.{MayProofEnd}
use Rattle.quasi_space.specs.Endings.{MayEndLast}
use Rattle.quasi_space.specs.AllSpaces.{pruned_spaces}
use Rattle.quasi_space.specs.Measures.{pruned_measures}
use Rattle.simplified_spaces.specs.Tries.{all_tries}
use Rattle.step_search.specs.Answers.{Finds, RunsOut}
use Rattle.proof_spaces.specs.Proofs.{three_with_steps, proof_space}
use Rattle.proof_spaces.specs.Laws.{ProofsHaveTexts}
use Rattle.proof_spaces.proofs.Composition as composed
use Rattle.portfolio.specs.declared.Outcome.{Outcome}
use Rattle.portfolio.specs.declared.Outcome.TheVariants.{Found, Exhausted, Spent}
use Rattle.portfolio.specs.Answers.{outcome_ending}

empty_view : (v : Vec Simp Global) (b : Bool) → b ≡ nat_eq v.len 0 → b ≡ true → map simp_view v.items ≡ []
empty_view v b e t = ap (map simp_view) (nil_from_length v.items (sym v.ok.0 ∙ eqb-true v.len 0 (sym e ∙ t)))

some_view : (v : Vec Simp Global) (b : Bool) → b ≡ nat_eq v.len 0 → b ≡ false → map simp_view v.items ≡ [] → ⊥
some_view v b e t none =
    let zero : v.len ≡ 0 = v.ok.0 ∙ (sym (length-map v.items simp_view) ∙ ap length none) in
    let clash : false ≡ true = sym t ∙ (e ∙ eq-eqb v.len 0 zero) in cc

module _ (names : NameTable) (sys : System) where
  -- behind the standard steps
  module _ (before here : Counts) where
    pub steps_run_out : RunsOut sys before here → Searches outcome_ending (MayEndSimplified names sys) before here (Ok Spent)
    steps_run_out out = (before.left, out.spent, λ left paid none l. composed.steps_spent names sys left paid before.left none l out.dearer)

    none_made : (steps : List Simplification) (last : System) → steps ≡ [] → Finds sys steps last before here → Searches outcome_ending (MayEndSimplified names sys) before here (Ok Exhausted)
    none_made [] last e f =
        let n = f.paid + all_tries last in
        let low : n ≤ f.tried + all_tries last = (let w = f.within in omega (arith, w)) in
        let enough : n ≤ before.left = (let s = f.spent.left in omega (arith, s)) in
        (n, f.spent, λ left paid none l. composed.none_to_make names sys left paid before.left none l last (f.tried + all_tries last) n f.standard low enough)
    none_made (s ∷ steps) last e f = absurd (cc)

    pub no_steps : (v : Vec Simp Global) (last : System) (b : Bool) → b ≡ nat_eq v.len 0 → b ≡ true → Finds sys (map simp_view v.items) last before here
        → Searches outcome_ending (MayEndSimplified names sys) before here (Ok Exhausted)
    no_steps v last b e t f = none_made (map simp_view v.items) last (empty_view v b e t) f

    -- a search of the last system that ends so
    some_made : (after : Counts) (steps : List Simplification) (last : System) → (steps ≡ [] → ⊥) → Finds sys steps last before here
        → (e : Ending Certificate) → (m : ℕ) × Spends here m after × MayEndLast (three_with_steps pruned_measures names steps last) here.left m e
        → (n : ℕ) × Spends before n after × MayEndSimplified names sys before.left n e
    some_made after [] last some f e h = absurd (some refl)
    some_made after (s ∷ steps) last some f e (m, t, h) =
        let n = f.paid + all_tries last in
        let low : n ≤ f.tried + all_tries last = (let w = f.within in omega (arith, w)) in
        let rest : before.left ≡ n + here.left = (let s = f.spent.left in omega (arith, s)) in (
          n + m,
          spends_both before here after n m f.spent t,
          λ left paid none l. composed.behind_them names sys left paid before.left none l s steps last (f.tried + all_tries last) n here.left f.standard low rest m e h,
        )

    pub some_steps : (after : Counts) (v : Vec Simp Global) (last : System) (b : Bool) → b ≡ nat_eq v.len 0 → b ≡ false → Finds sys (map simp_view v.items) last before here
        → (end : Behind) → Searches behind_ending (MayEndLast (three_with_steps pruned_measures names (map simp_view v.items) last)) here after (Ok end)
        → (o : Outcome) → outcome_ending o ≡ behind_ending end → Searches outcome_ending (MayEndSimplified names sys) before after (Ok o)
    some_steps after v last b e t f end h o same =
        subst (λ z. (n : ℕ) × Spends before n after × MayEndSimplified names sys before.left n z) (sym same)
        (some_made after (map simp_view v.items) last (some_view v b e t) f (behind_ending end) h)

    pub kept_behind : (after : Counts) (steps : List Simplification) (last : System) → Finds sys steps last before here → (n : ℕ) × Spends here n after → (n : ℕ) × Spends before n after
    kept_behind after steps last f k = kept_on before here after (f.paid + all_tries last, f.spent) k

  -- the searches of the system come first
  module _ (before here : Counts) where
    pub own_told : (s : System) → s ≡ sys → (f g : Search) → f ≡ g → Searches ending_of (MayEndLast (pruned_spaces names s)) before here (Ok f)
        → Searches ending_of (MayEndLast (pruned_spaces names sys)) before here (Ok g)
    own_told s same f g is h = subst₂ (λ z q. Searches ending_of (MayEndLast (pruned_spaces names z)) before here (Ok q)) same is h

    pub own_proves : (c : model.Certificate) → Searches ending_of (MayEndLast (pruned_spaces names sys)) before here (Ok (search.Found c))
        → Searches outcome_ending (MayProofEnd names sys) before here (Ok (Found c))
    own_proves c (n, s, h) = (n, s, composed.own_found names sys before.left n (certificate_view c) h)

    pub own_runs_out : Searches ending_of (MayEndLast (pruned_spaces names sys)) before here (Ok search.Spent) → Searches outcome_ending (MayProofEnd names sys) before here (Ok Spent)
    own_runs_out (n, s, h) = (n, s, composed.own_spent names sys before.left n h)

    module _ (after : Counts) (none : Searches ending_of (MayEndLast (pruned_spaces names sys)) before here (Ok search.Nothing)) where
      pub proves_behind : (r : Result Outcome NoMemory) → Searches outcome_ending (MayEndSimplified names sys) here after r → Searches outcome_ending (MayProofEnd names sys) before after r
      proves_behind =
          or_else outcome_ending (MayEndLast (pruned_spaces names sys)) (MayProofEnd names sys) (MayEndSimplified names sys) (λ left n rest m e none l h. h left n none l) before here after none

      -- the first space has no certificate, as all three have none
      pub none_first_of_all : (r : Result Outcome NoMemory) (c : Certificate) (n : ℕ) → (ortho_space names sys).Finds c n → IfFound outcome_ending r (λ d. (d ≡ c) × Spends before n after)
      none_first_of_all r c n f = absurd (none.2.0 c n (inl (inl f)))

  module _ (before after : Counts) where
    -- what is found is valid and can be written, and where nothing is found, nothing that is searched is valid
    module _ (law : IsSearchable sys (proof_space names sys)) where
      pub proved_valid : (r : Result Outcome NoMemory) → Searches outcome_ending (MayProofEnd names sys) before after r → IfFound outcome_ending r (IsValid sys)
      proved_valid (Ok (Found c)) (n, s, (m, f, le)) = (law.searched.held (certificate_view c) m f).1
      proved_valid (Ok Exhausted) h = tt
      proved_valid (Ok Spent) h = tt
      proved_valid (Err e) h = tt

      pub nothing_valid : (r : Result Outcome NoMemory) → Searches outcome_ending (MayProofEnd names sys) before after r
          → IfNothing outcome_ending r ((c : Certificate) → (proof_space names sys).Holds c → IsValid sys c → ⊥)
      nothing_valid (Ok (Found c)) h = tt
      nothing_valid (Ok Exhausted) (n, s, (barren, rest)) = law.searched.barren barren
      nothing_valid (Ok Spent) h = tt
      nothing_valid (Err e) h = tt

    pub proved_written : ProofsHaveTexts → (r : Result Outcome NoMemory) → Searches outcome_ending (MayProofEnd names sys) before after r → IfFound outcome_ending r (HasText names)
    proved_written law (Ok (Found c)) (n, s, (m, f, le)) = law names sys (certificate_view c) m f
    proved_written law (Ok Exhausted) h = tt
    proved_written law (Ok Spent) h = tt
    proved_written law (Err e) h = tt
