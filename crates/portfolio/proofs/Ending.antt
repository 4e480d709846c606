-- How the searches of the three spaces of a system end, from the ends of each.
use Rattle.std.proofs.Common.{ℕ, ◌≡◌, Result, Ok, Err, subst, arith}
use Rattle.rewriting.specs.Rules.{System}
use Rattle.certificates.specs.Certificates.{Certificate}
use Rattle.term_core.specs.declared.terms.NoMemory.{NoMemory}
use Rattle.cert_model.specs.CertificateView.{certificate_view}
use Rattle.cops_names.specs.NameTable.{NameTable}
use Rattle.validity.specs.declared.Search.{Search}
use Rattle.validity.specs.declared.Search.TheVariants.{Found, Nothing, Spent}
use Rattle.cc_count.specs.Counts.{Counts, Spends}
use Rattle.first_found.specs.Spaces.{Space, found, CostsOnce, MayEnd, MayEndExactly}
use Rattle.first_found.proofs.Spaces.{ends_so, first_found, first_spent, second_ends}
use Rattle.search_answers.specs.Answers.{Searches, ending_of, IfFound}
use Rattle.search_answers.proofs.OrElse.{stands, or_else}
use Rattle.search_answers.proofs.Walking.{not_nothing_found}
use Rattle.search_spaces.specs.Ortho.{ortho_space}
use Rattle.search_spaces.specs.Peak.{peak_space}
use Rattle.search_spaces.specs.OrthoThenPeak.{ortho_then_peak_space}
use Rattle.search_spaces.proofs.Ortho.{cost_once, ortho_finds_once}
use Rattle.quasi_space.specs.AllSpaces.{pruned_spaces}
use Rattle.quasi_space.specs.Endings.{MayEndLast}
use Rattle.quasi_space.specs.Measures.{pruned_measures}
use Rattle.quasi_space.specs.Quasi.{quasi_space_by}
use Rattle.quasi_space.proofs.Endings.{last_ends}

module _ (names : NameTable) (sys : System) where
  abbrev Ortho : Space Certificate
  Ortho = ortho_space names sys

  abbrev Peak : Space Certificate
  Peak = peak_space names sys

  abbrev Both : Space Certificate
  Both = ortho_then_peak_space names sys

  abbrev Last : Space Certificate
  Last = quasi_space_by (pruned_measures sys) names sys

  -- where the first space has a certificate, that is found, for exactly its price
  abbrev pub IsOrthoFirst : Counts → Counts → Result Search NoMemory → Type 0
  IsOrthoFirst before after r = (c : Certificate) (n : ℕ) → Ortho.Finds c n → IfFound ending_of r (λ d. (d ≡ c) × Spends before n after)

  module _ (before here : Counts) where
    pub ortho_first : (r : Result Search NoMemory) → Searches ending_of (MayEndExactly Ortho) before here r → IsOrthoFirst before here r
    ortho_first (Ok (Found c)) (n, s, f) d m g =
        let same = ortho_finds_once names sys (certificate_view c) d n m f g in (same.1, subst (λ k. Spends before k here) same.0 s)
    ortho_first (Ok Nothing) h d m g = tt
    ortho_first (Ok Spent) h d m g = tt
    ortho_first (Err e) h d m g = tt

    pub both_stand : (a : Search) → (a ≡ Nothing → ⊥) → Searches ending_of (MayEndExactly Ortho) before here (Ok a) → Searches ending_of (MayEnd Both) before here (Ok a)
    both_stand a other =
        stands ending_of (MayEndExactly Ortho) (MayEnd Both) (λ left n c h. first_found Ortho Peak left n c (ends_so Ortho left n (found c) h)) (λ left n h. first_spent Ortho Peak left n h)
        before here a (not_nothing_found a other)

    pub all_stand : (a : Search) → (a ≡ Nothing → ⊥) → Searches ending_of (MayEnd Both) before here (Ok a) → Searches ending_of (MayEndLast (pruned_spaces names sys)) before here (Ok a)
    all_stand a other =
        stands ending_of (MayEnd Both) (MayEndLast (pruned_spaces names sys)) (λ left n c h. first_found Both Last left n c h) (λ left n h. first_spent Both Last left n h)
        before here a (not_nothing_found a other)

    module _ (after : Counts) where
      pub both_behind : Searches ending_of (MayEndExactly Ortho) before here (Ok Nothing) → (r : Result Search NoMemory) → Searches ending_of (MayEndExactly Peak) here after r
          → Searches ending_of (MayEnd Both) before after r
      both_behind =
          or_else ending_of (MayEndExactly Ortho) (MayEnd Both) (MayEndExactly Peak)
          (λ left n rest m e none l h. second_ends Ortho Peak (cost_once names sys) left n none (omega (arith, l)) rest m e l (ends_so Peak rest m e h)) before here after

      pub all_behind : CostsOnce Both → Searches ending_of (MayEnd Both) before here (Ok Nothing) → (r : Result Search NoMemory) → Searches ending_of (MayEndLast Last) here after r
          → Searches ending_of (MayEndLast (pruned_spaces names sys)) before after r
      all_behind once =
          or_else ending_of (MayEnd Both) (MayEndLast (pruned_spaces names sys)) (MayEndLast Last)
          (λ left n rest m e none l h. last_ends Both Last once left n none (omega (arith, l)) rest m e l h) before here after

      -- the first space has no certificate
      pub ortho_none : Searches ending_of (MayEndExactly Ortho) before here (Ok Nothing) → (r : Result Search NoMemory) → IsOrthoFirst before after r
      ortho_none none r c n f = absurd (none.2.0 c n f)
