-- The proof spaces are searchable.
use Rattle.std.proofs.Common.{◌≡◌, List, [], ◌∷◌, arith}
use Rattle.rewriting.specs.Rules.{System}
use Rattle.certificates.specs.Certificates.{Simplification, Certificate, simplified_certificate}
use Rattle.cops_names.specs.NameTable.{NameTable}
use Rattle.simplifications.specs.Simplifying.{AllSimplify}
use Rattle.first_found.specs.Spaces.{Space}
use Rattle.search_spaces.specs.Texts.{HasText}
use Rattle.search_spaces.specs.Laws.{IsSearchable}
use Rattle.search_spaces.specs.Ortho.{ortho_space}
use Rattle.search_spaces.specs.Peak.{peak_space}
use Rattle.search_spaces.specs.OrthoThenPeak.{ortho_then_peak_space}
use Rattle.search_spaces.proofs.OrthoThenPeak.{ortho_searchable, peak_searchable, whole_searchable, both_searchable}
use Rattle.quasi_space.specs.Measures.{MeasureTrials, each_measure, pruned_measures}
use Rattle.quasi_space.specs.Quasi.{quasi_space_by}
use Rattle.quasi_space.specs.AllSpaces.{all_spaces_by}
use Rattle.quasi_space.proofs.Measures.{AreTrials, each_tried, pruned_tried}
use Rattle.quasi_space.proofs.Quasi.{quasi_searchable}
use Rattle.simplified_spaces.specs.Standard.{Simplified, IsStandard}
use Rattle.simplified_spaces.proofs.Standard.{standard_good, standard_once, standard_there}
use Rattle.proof_spaces.specs.Proofs.{with_steps, two_with_steps, three_with_steps, if_some, behind_steps, simplified_space, proof_space_by}
use Rattle.proof_spaces.specs.Laws.{ProofSpacesAreSearchable, PrunedProofSpacesAreSearchable}
use Rattle.proof_spaces.proofs.Combined.{IsOneOf, empty_searchable, only_searchable, space_searchable}

same_simplified : (x y : Simplified) → x.steps ≡ y.steps → x.last ≡ y.last → x ≡ y
same_simplified x y e f = grind arith

pub one_standard : (sys : System) → IsOneOf (IsStandard sys)
one_standard sys =
    record {
      one = λ x y a b h g. (let s = standard_once sys x.steps y.steps x.last y.last a b h g in (same_simplified x y s.steps s.last, s.number));
      not_none = λ none. (standard_there sys).not_none (λ steps last w h. none (record { steps = steps; last = last }) w h);
    }

module _ (by : System → MeasureTrials) (trials : (sys : System) → AreTrials sys (by sys)) (names : NameTable) where
  pub own_searchable : (sys : System) → IsSearchable sys (all_spaces_by (by sys) names sys)
  own_searchable sys =
      both_searchable sys (ortho_then_peak_space names sys) (quasi_space_by (by sys) names sys) (whole_searchable names sys) (quasi_searchable names sys (by sys) (trials sys))

  module _ (sys : System) where
    with_searchable : (steps : List Simplification) (last : System) → AllSimplify sys steps last → (S : Space Certificate) → IsSearchable last S → IsSearchable sys (with_steps names steps S)
    with_searchable steps last all S s = only_searchable sys (simplified_certificate steps) (HasText names) last S s (λ c v. (last, all, v))

    three_searchable : (steps : List Simplification) (last : System) → AllSimplify sys steps last → IsSearchable sys (three_with_steps by names steps last)
    three_searchable steps last all =
        both_searchable sys (two_with_steps names steps last) (with_steps names steps (quasi_space_by (by last) names last))
        (both_searchable sys (with_steps names steps (ortho_space names last)) (with_steps names steps (peak_space names last))
        (with_searchable steps last all (ortho_space names last) (ortho_searchable names last)) (with_searchable steps last all (peak_space names last) (peak_searchable names last)))
        (with_searchable steps last all (quasi_space_by (by last) names last) (quasi_searchable names last (by last) (trials last)))

    if_searchable : (steps : List Simplification) (last : System) → AllSimplify sys steps last → IsSearchable sys (if_some by names steps last)
    if_searchable [] last all = empty_searchable sys
    if_searchable (s ∷ steps) last all = three_searchable (s ∷ steps) last all

    simplified_searchable : IsSearchable sys (simplified_space by names sys)
    simplified_searchable =
        space_searchable sys (IsStandard sys) (behind_steps by names) (one_standard sys) (λ x w h. if_searchable x.steps x.last (standard_good sys x.steps x.last w h))

    proof_searchable : IsSearchable sys (proof_space_by by names sys)
    proof_searchable = both_searchable sys (all_spaces_by (by sys) names sys) (simplified_space by names sys) (own_searchable sys) simplified_searchable

pub searchable : ProofSpacesAreSearchable
searchable names sys = proof_searchable each_measure each_tried names sys

pub pruned_searchable : PrunedProofSpacesAreSearchable
pruned_searchable names sys = proof_searchable pruned_measures pruned_tried names sys
