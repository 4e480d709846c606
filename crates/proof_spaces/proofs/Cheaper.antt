-- A search that tries nothing behind dead prefixes is one that tries each measure, behind the steps, too.
use Rattle.std.proofs.Common.{ℕ, ◌+◌, ◌≤◌, List, [], ◌∷◌, inl, inr, refl, arith}
use Rattle.rewriting.specs.Rules.{System}
use Rattle.certificates.specs.Certificates.{Simplification, Certificate, simplified_certificate}
use Rattle.cops_names.specs.NameTable.{NameTable}
use Rattle.first_found.specs.Spaces.{Space, Ending, found, nothing}
use Rattle.search_spaces.specs.Texts.{HasText}
use Rattle.quasi_space.specs.Endings.{MayEndLast}
use Rattle.quasi_space.specs.Measures.{each_measure, pruned_measures}
use Rattle.quasi_space.specs.Quasi.{quasi_space, quasi_space_by}
use Rattle.quasi_space.proofs.AllSpaces.{quasi_cheaper, all_pruned_search}
use Rattle.quasi_space.proofs.Cheaper.{IsCheaper, cheaper_search, cheaper_behind}
use Rattle.proof_spaces.specs.Combined.{only_found}
use Rattle.proof_spaces.specs.Proofs.{with_steps, two_with_steps, three_with_steps, if_some}
use Rattle.proof_spaces.specs.Laws.{PrunedProofsAreProofs}
use Rattle.proof_spaces.proofs.Costs.{spaces_cost}

-- what is cheaper is so in another form
module _ {C D : Type 0} (form : C → D) (InPlace : D → Type 0) (S T : Space C) (h : IsCheaper S T) where
  only_dearer : (d : D) (n : ℕ) → (only_found form InPlace S).Finds d n → (k : ℕ) × (only_found form InPlace T).Finds d k × (n ≤ k)
  only_dearer d n (c, f, e, place) = let at = h.dearer_found c n f in (at.0, (c, at.1, e, place), at.2)

  only_cheaper : IsCheaper (only_found form InPlace S) (only_found form InPlace T)
  only_cheaper =
      record {
        dearer_found = only_dearer;
        cheaper_found = λ d n f none. h.cheaper_found f.0 n f.1 (λ k g less. none k (f.0, g, f.2, f.3) less);
        cheaper_cost = h.cheaper_cost;
      }

module _ (names : NameTable) (steps : List Simplification) (last : System) where
  three_cheaper : IsCheaper (three_with_steps pruned_measures names steps last) (three_with_steps each_measure names steps last)
  three_cheaper =
      cheaper_behind (two_with_steps names steps last) (with_steps names steps (quasi_space_by (pruned_measures last) names last)) (with_steps names steps (quasi_space names last))
      (only_cheaper (simplified_certificate steps) (HasText names) (quasi_space_by (pruned_measures last) names last) (quasi_space names last) (quasi_cheaper names last))

  pub three_search : (left paid : ℕ) (e : Ending Certificate) → MayEndLast (three_with_steps pruned_measures names steps last) left paid e
      → MayEndLast (three_with_steps each_measure names steps last) left paid e
  three_search = cheaper_search (three_with_steps pruned_measures names steps last) (three_with_steps each_measure names steps last) three_cheaper

found_if : (names : NameTable) (steps : List Simplification) (last : System) (c : Certificate) (n : ℕ) → (if_some pruned_measures names steps last).Finds c n
    → (m : ℕ) × (if_some each_measure names steps last).Finds c m
found_if names [] last c n f = absurd f
found_if names (s ∷ steps) last c n f = let at = (three_cheaper names (s ∷ steps) last).dearer_found c n f in (at.0, at.1)

pub pruned_are_proofs : PrunedProofsAreProofs
pruned_are_proofs names sys c n (inl f) = let at = all_pruned_search names sys 0 n (found c) (n, f, omega arith) in (at.0, inl at.1)
pruned_are_proofs names sys c n (inr (b, (i, j, x, (y, a, k, is, f, g), e))) =
    let bare = (all_pruned_search names sys 0 0 nothing (b, λ m z. omega arith)).0 in
    let own = spaces_cost names sys in
    let at = found_if names y.steps y.last c k f in (own.0 + (a + at.0), inr (bare, (own.0, a + at.0, own.1, (y, a, at.0, is, at.1, refl), refl)))
