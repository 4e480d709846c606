-- How the searches of the last system end behind the steps.
use Rattle.std.proofs.Common.{ℕ, ◌≡◌, List, map, Vec, Global, Result, Ok, Err, IfOk, refl, sym, subst}
use Rattle.rewriting.specs.Rules.{System}
use Rattle.certificates.specs.Certificates.{Simplification, Certificate}
use Rattle.cert_model.specs.CertificateView.{simp_view, certificate_view}
use Rattle.cert_model.specs.declared.model.Simp.{Simp}
use Rattle.cops_names.specs.NameTable.{NameTable}
use Rattle.term_core.specs.declared.terms.NoMemory.{NoMemory}
use Rattle.validity.specs.declared.Search.{Search}
use Rattle.validity.specs.declared.Search.TheVariants as search
use Rattle.cc_count.specs.Counts.{Counts}
use Rattle.first_found.specs.Spaces.{Space, Ending, found, nothing, spent, MayEnd, MayEndExactly}
use Rattle.first_found.proofs.Spaces.{first_found, first_spent}
use Rattle.search_answers.specs.Answers.{Searches, ending_of}
use Rattle.search_answers.proofs.OrElse.{stands, or_else}
use Rattle.search_spaces.specs.Ortho.{ortho_space}
use Rattle.search_spaces.specs.Peak.{peak_space}
use Rattle.quasi_space.specs.Endings.{MayEndLast}
use Rattle.quasi_space.specs.Measures.{pruned_measures}
use Rattle.quasi_space.specs.Quasi.{quasi_space_by}
use Rattle.proof_spaces.specs.Proofs.{with_steps, two_with_steps, three_with_steps}
use Rattle.proof_spaces.proofs.Behind as behind
use Rattle.portfolio.specs.declared.behind.Behind.{Behind}
use Rattle.portfolio.specs.declared.behind.Behind.TheVariants.{Found, Nothing, Spent}
use Rattle.portfolio.specs.StepAnswers.{behind_ending, HandsBack, AnswersBehind, quasi_with_steps}

not_nothing : (b : Behind) → ((v : Vec Simp Global) → b ≡ Nothing v → ⊥) → behind_ending b ≡ nothing → ⊥
not_nothing (Found c) other e = cc
not_nothing (Nothing v) other e = other v refl
not_nothing Spent other e = cc

module _ (names : NameTable) (steps : List Simplification) where
  -- a search of the last system that ends so, ends otherwise behind the steps
  module _ (Ends Behinds : ℕ → ℕ → Ending Certificate → Type 0) (by : behind.StandsBehind names steps Ends Behinds) where
    ends : (left n : ℕ) (answer : Search) (b : Behind) → AnswersBehind names steps answer (Ok b) → Ends left n (ending_of answer) → Behinds left n (behind_ending b)
    ends left n (search.Found body) (Found c) (is, text) h = subst (λ z. Behinds left n (found z)) (sym is) (by.kept left n (certificate_view body) h text)
    ends left n (search.Found body) (Nothing again) (same, unwritten) h = by.lost left n (certificate_view body) h unwritten
    ends left n (search.Found body) Spent a h = absurd a
    ends left n search.Nothing b (is, same) h = subst (Behinds left n) (sym is) (by.none left n h)
    ends left n search.Spent b is h = subst (Behinds left n) (sym is) (by.out left n h)

    ends_behind : (before after : Counts) (answer : Search) (r : Result Behind NoMemory) → Searches ending_of Ends before after (Ok answer) → AnswersBehind names steps answer r
        → Searches behind_ending Behinds before after r
    ends_behind before after answer (Ok b) (n, s, h) a = (n, s, ends before.left n answer b a h)
    ends_behind before after answer (Err e) h a = tt

  not_spent : (b : Behind) → behind_ending b ≡ spent → HandsBack steps b
  not_spent (Found c) e = tt
  not_spent (Nothing again) e = absurd (cc)
  not_spent Spent e = tt

  pub hands_back : (answer : Search) (r : Result Behind NoMemory) → AnswersBehind names steps answer r → IfOk r (HandsBack steps)
  hands_back (search.Found body) (Ok (Found c)) a = tt
  hands_back (search.Found body) (Ok (Nothing again)) a = a.0
  hands_back (search.Found body) (Ok Spent) a = tt
  hands_back search.Nothing (Ok b) a = a.1
  hands_back search.Spent (Ok b) a = not_spent b a
  hands_back answer (Err e) a = tt

  -- those that were handed on are the same
  pub hands_on : (v : Vec Simp Global) → HandsBack steps (Nothing v) → (r : Result Behind NoMemory) → IfOk r (HandsBack (map simp_view v.items)) → IfOk r (HandsBack steps)
  hands_on v same r h = subst (λ ss. IfOk r (HandsBack ss)) same h

  module _ (last : System) where
    abbrev ortho : Space Certificate
    ortho = with_steps names steps (ortho_space names last)

    abbrev peak : Space Certificate
    peak = with_steps names steps (peak_space names last)

    abbrev Ortho : ℕ → ℕ → Ending Certificate → Type 0
    Ortho = MayEnd ortho

    abbrev Peak : ℕ → ℕ → Ending Certificate → Type 0
    Peak = MayEnd peak

    abbrev Two : ℕ → ℕ → Ending Certificate → Type 0
    Two = MayEnd (two_with_steps names steps last)

    abbrev Last : ℕ → ℕ → Ending Certificate → Type 0
    Last = MayEndLast (quasi_with_steps names steps last)

    abbrev Three : ℕ → ℕ → Ending Certificate → Type 0
    Three = MayEndLast (three_with_steps pruned_measures names steps last)

    module _ (before after : Counts) (answer : Search) (r : Result Behind NoMemory) where
      pub ortho_behind : Searches ending_of (MayEndExactly (ortho_space names last)) before after (Ok answer) → AnswersBehind names steps answer r → Searches behind_ending Ortho before after r
      ortho_behind = ends_behind (MayEndExactly (ortho_space names last)) Ortho (behind.ortho_behind names steps last) before after answer r

      pub peak_behind : Searches ending_of (MayEndExactly (peak_space names last)) before after (Ok answer) → AnswersBehind names steps answer r → Searches behind_ending Peak before after r
      peak_behind = ends_behind (MayEndExactly (peak_space names last)) Peak (behind.peak_behind names steps last) before after answer r

      pub quasi_behind : Searches ending_of (MayEndLast (quasi_space_by (pruned_measures last) names last)) before after (Ok answer) → AnswersBehind names steps answer r
          → Searches behind_ending Last before after r
      quasi_behind = ends_behind (MayEndLast (quasi_space_by (pruned_measures last) names last)) Last (behind.quasi_behind names steps last) before after answer r

    -- one behind the other
    module _ (before here : Counts) where
      pub two_stand : (b : Behind) → ((v : Vec Simp Global) → b ≡ Nothing v → ⊥) → Searches behind_ending Ortho before here (Ok b) → Searches behind_ending Two before here (Ok b)
      two_stand b other = stands behind_ending Ortho Two (first_found ortho peak) (first_spent ortho peak) before here b (not_nothing b other)

      pub three_stand : (b : Behind) → ((v : Vec Simp Global) → b ≡ Nothing v → ⊥) → Searches behind_ending Two before here (Ok b) → Searches behind_ending Three before here (Ok b)
      three_stand b other =
          stands behind_ending Two Three (first_found (two_with_steps names steps last) (quasi_with_steps names steps last))
          (first_spent (two_with_steps names steps last) (quasi_with_steps names steps last)) before here b (not_nothing b other)

      -- the steps that were handed back are the same
      module _ (after : Counts) (v : Vec Simp Global) (same : HandsBack steps (Nothing v)) (r : Result Behind NoMemory) where
        pub two_behind : Searches behind_ending Ortho before here (Ok (Nothing v)) → Searches behind_ending (MayEnd (with_steps names (map simp_view v.items) (peak_space names last))) here after r
            → Searches behind_ending Two before after r
        two_behind none h =
            or_else behind_ending Ortho Two Peak (λ left n rest m e none l h. behind.second_ends_two names steps last left n rest m e none l h) before here after none r
            (subst (λ ss. Searches behind_ending (MayEnd (with_steps names ss (peak_space names last))) here after r) same h)

        pub three_behind : Searches behind_ending Two before here (Ok (Nothing v))
            → Searches behind_ending (MayEndLast (quasi_with_steps names (map simp_view v.items) last)) here after r
            → Searches behind_ending Three before after r
        three_behind none h =
            or_else behind_ending Two Three Last (λ left n rest m e none l h. behind.last_ends_three names steps last left n rest m e none l h) before here after none r
            (subst (λ ss. Searches behind_ending (MayEndLast (quasi_with_steps names ss last)) here after r) same h)
