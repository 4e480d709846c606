-- Laws of the spaces.
use Rattle.std.specs.Prelude.{ℕ, ◌*◌, ◌≤◌, List, length}
use Rattle.rewriting.specs.Rules.{System, EachRule}
use Rattle.unifier_run.specs.Overlaps.{Overlap, AreOverlaps}
use Rattle.certificates.specs.Certificates.{Certificate}
use Rattle.cops_names.specs.NameTable.{NameTable}
use Rattle.valid_certificates.specs.Certificates.{IsValid}
use Rattle.first_found.specs.Spaces.{Space, CostsOnce, HasCost, FindsOnce, HasPrice, IsSearched}
use Rattle.search_spaces.specs.Ortho.{ortho_space}
use Rattle.search_spaces.specs.Peak.{peak_space}
use Rattle.search_spaces.specs.OrthoThenPeak.{ortho_then_peak_space}

-- what the space finds is in it and valid, and where it finds nothing, nothing in it is valid;
-- it finds one certificate at most, at one price, which is no more than its cost; that is one number, and it cannot be that it has none
pub record IsSearchable (sys : System) (S : Space Certificate) : Type 0 where
  pub searched : IsSearched (IsValid sys) S
  pub finds_once : FindsOnce S
  pub finds_within : (c : Certificate) (n m : ℕ) → S.Finds c n → S.Costs m → n ≤ m
  pub costs_once : CostsOnce S
  pub has_cost : HasCost S
  pub has_price : HasPrice S

abbrev pub OrthoSpacesAreSearchable : Type 0
OrthoSpacesAreSearchable = (names : NameTable) (sys : System) → IsSearchable sys (ortho_space names sys)

abbrev pub PeakSpacesAreSearchable : Type 0
PeakSpacesAreSearchable = (names : NameTable) (sys : System) → IsSearchable sys (peak_space names sys)

abbrev pub WholeSpacesAreSearchable : Type 0
WholeSpacesAreSearchable = (names : NameTable) (sys : System) → IsSearchable sys (ortho_then_peak_space names sys)

-- where no rule has more than 20 conditions, the first space costs at most 442 units for each overlap
abbrev pub OrthoSpacesCostFewUnits : Type 0
OrthoSpacesCostFewUnits =
    (names : NameTable) (sys : System) (os : List Overlap) (n : ℕ) → AreOverlaps sys os → EachRule sys (λ r. length r.conditions ≤ 20) → (ortho_space names sys).Costs n → n ≤ 442 * length os
