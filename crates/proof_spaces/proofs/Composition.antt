-- How a proof ends, from how its parts end: the spaces of the system, the standard steps, and the spaces behind them.
use Rattle.std.proofs.Common.{ℕ, ◌≡◌, ◌+◌, ◌≤◌, ◌<◌, List, [], ◌∷◌, refl, sym, subst, arith}
use Rattle.rewriting.specs.Rules.{System}
use Rattle.certificates.specs.Certificates.{Simplification, Certificate}
use Rattle.cops_names.specs.NameTable.{NameTable}
use Rattle.first_found.specs.Spaces.{Space, IsDearer, Ending, found, nothing, spent, MayEnd}
use Rattle.first_found.proofs.Spaces.{first_found, first_spent, second_ends}
use Rattle.quasi_space.specs.Endings.{MayEndLast}
use Rattle.quasi_space.specs.Measures.{each_measure, pruned_measures}
use Rattle.quasi_space.specs.AllSpaces.{all_spaces, pruned_spaces}
use Rattle.quasi_space.proofs.AllSpaces.{all_searchable, all_pruned_search}
use Rattle.simplified_spaces.specs.Standard.{Simplified, AreStandard, IsStandard}
use Rattle.proof_spaces.specs.Proofs.{three_with_steps, behind_steps, simplified_space, proof_space, pruned_proof_space}
use Rattle.proof_spaces.specs.Endings.{IsTooLittle, MayProofEnd}
use Rattle.proof_spaces.proofs.Costs.{spaces_cost}
use Rattle.proof_spaces.proofs.Searchable.{one_standard, pruned_searchable}
use Rattle.proof_spaces.proofs.Ends.{beyond_of_dearer, known_cost, dearer_second, dearer_before, dearer_behind, found_behind, nothing_behind}
use Rattle.proof_spaces.proofs.Cheaper.{three_search}
use Rattle.proof_spaces.proofs.Prices.{pruned_costs_are_sums}

module _ (names : NameTable) (sys : System) where
  abbrev Each : Space Certificate
  Each = simplified_space each_measure names sys

  abbrev Pruned : Space Certificate
  Pruned = simplified_space pruned_measures names sys

  -- where less than the price is there, less than the sum is
  too_little : (left : ℕ) → IsDearer (proof_space names sys) left → IsDearer (pruned_proof_space names sys) left → IsTooLittle names sys left
  too_little left price pruned =
      record {
        price = price;
        pruned = pruned;
        sum = λ n w. beyond_of_dearer (pruned_proof_space names sys) (pruned_searchable names sys).finds_within left pruned n ((pruned_costs_are_sums names sys n).1 w);
      }

  -- a search of the three spaces of the system
  pub own_found : (left paid : ℕ) (c : Certificate) → MayEndLast (pruned_spaces names sys) left paid (found c) → MayProofEnd names sys left paid (found c)
  own_found left paid c h = first_found (all_spaces names sys) Each left paid c (all_pruned_search names sys left paid (found c) h)

  pub own_spent : (left paid : ℕ) → MayEndLast (pruned_spaces names sys) left paid spent → MayProofEnd names sys left paid spent
  own_spent left paid h = (
    h.0,
    too_little left (first_spent (all_spaces names sys) Each left paid (all_pruned_search names sys left paid spent h)).1 (first_spent (pruned_spaces names sys) Pruned left paid h).1,
  )

  -- they hold nothing, and so much is left
  module _ (left paid rest : ℕ) (none : MayEndLast (pruned_spaces names sys) left paid nothing) (l : left ≡ paid + rest) where
    none_of_all : MayEndLast (all_spaces names sys) left paid nothing
    none_of_all = all_pruned_search names sys left paid nothing none

    goes_on : (more : ℕ) (e : Ending Certificate) → MayEnd Each rest more e → MayEnd (proof_space names sys) left (paid + more) e
    goes_on more e h =
        let cost = spaces_cost names sys in
        second_ends (all_spaces names sys) Each (all_searchable names sys).costs_once left paid (known_cost (all_spaces names sys) cost.0 cost.1 left paid nothing none_of_all)
        (omega (arith, l)) rest more e l h

    rest_too_little : IsDearer Each rest → IsDearer Pruned rest → IsTooLittle names sys left
    rest_too_little each pruned =
        too_little left (dearer_second (all_spaces names sys) Each left paid rest none_of_all l each) (dearer_second (pruned_spaces names sys) Pruned left paid rest none l pruned)

    -- the tries of the standard steps are more than that
    pub steps_spent : ((steps : List Simplification) (last : System) (w : ℕ) → AreStandard sys steps last w → rest < w) → MayProofEnd names sys left (paid + rest) spent
    steps_spent less =
        let more : (x : Simplified) (w : ℕ) → IsStandard sys x w → rest < w = λ x w h. less x.steps x.last w h in (
          sym l,
          rest_too_little (dearer_before (IsStandard sys) (behind_steps each_measure names) rest more) (dearer_before (IsStandard sys) (behind_steps pruned_measures names) rest more),
        )

    -- there are no standard steps, which took no more than the tries
    pub none_to_make : (last : System) (w n : ℕ) → AreStandard sys [] last w → n ≤ w → n ≤ rest → MayProofEnd names sys left (paid + n) nothing
    none_to_make last w n is low enough =
        let e : n + 0 ≡ n = omega arith in
        goes_on n nothing
        (subst (λ z. MayEnd Each rest z nothing) e
        (nothing_behind (IsStandard sys) (behind_steps each_measure names) (one_standard sys) (record { steps = []; last = last }) w is rest n low 0 ((λ c m f. f), (0, refl, omega arith))))

    -- there are some
    module _ (s : Simplification) (steps : List Simplification) (last : System) (w n here : ℕ) (is : AreStandard sys (s ∷ steps) last w) (low : n ≤ w) (k : rest ≡ n + here) where
      abbrev X : Simplified
      X = record { steps = s ∷ steps; last = last }

      pub behind_them : (more : ℕ) (e : Ending Certificate) → MayEndLast (three_with_steps pruned_measures names (s ∷ steps) last) here more e → MayProofEnd names sys left (paid + (n + more)) e
      behind_them more (found c) h =
          goes_on (n + more) (found c)
          (found_behind (IsStandard sys) (behind_steps each_measure names) (one_standard sys) X w is rest n low more c (three_search names (s ∷ steps) last here more (found c) h))
      behind_them more nothing h =
          let cost = spaces_cost names last in
          goes_on (n + more) nothing
          (nothing_behind (IsStandard sys) (behind_steps each_measure names) (one_standard sys) X w is rest n low more
          (known_cost (three_with_steps each_measure names (s ∷ steps) last) cost.0 cost.1 here more nothing (three_search names (s ∷ steps) last here more nothing h)))
      behind_them more spent h =
          let all = h.0 in
          let each = (three_search names (s ∷ steps) last here more spent h).1 in (
            omega (arith, l, k, all),
            rest_too_little (dearer_behind (IsStandard sys) (behind_steps each_measure names) (one_standard sys) X w is rest n low here k each)
                (dearer_behind (IsStandard sys) (behind_steps pruned_measures names) (one_standard sys) X w is rest n low here k h.1),
          )
