-- Each space is searchable, with the whole grid and with the pruned one, and a search with the pruned one is a search with the whole.
use Rattle.std.proofs.Common.{ℕ, ◌+◌, ◌≤◌, inl, inr, refl, arith}
use Rattle.rewriting.specs.Rules.{System}
use Rattle.certificates.specs.Certificates.{Certificate}
use Rattle.cops_names.specs.NameTable.{NameTable}
use Rattle.search_spaces.specs.OrthoThenPeak.{ortho_then_peak_space}
use Rattle.search_spaces.specs.Laws.{IsSearchable}
use Rattle.search_spaces.proofs.OrthoThenPeak.{whole_searchable, both_searchable}
use Rattle.quasi_space.proofs.PrunedMeasures.{firsts_are, ends_once}
use Rattle.quasi_space.specs.Measures.{MeasureTrials, each_measure, pruned_measures}
use Rattle.quasi_space.specs.Quasi.{all_items_cost, IsQuasiFound, IsQuasiCost, quasi_space, quasi_space_by}
use Rattle.quasi_space.specs.AllSpaces.{all_spaces_by, all_spaces, pruned_spaces}
use Rattle.quasi_space.specs.Laws.{QuasiSpacesAreSearchable, PrunedSpacesAreSearchable, PrunedSearchesAreSearches}
use Rattle.quasi_space.specs.Laws.{AllSpacesAreSearchable, AllPrunedSpacesAreSearchable, AllPrunedSearchesAreSearches}
use Rattle.quasi_space.proofs.Measures.{AreTrials, each_tried, pruned_tried, whole_within, same_first}
use Rattle.quasi_space.proofs.Quasi.{quasi_searchable}
use Rattle.quasi_space.proofs.Cheaper.{IsCheaper, cheaper_search, cheaper_behind}

pub each_searchable : QuasiSpacesAreSearchable
each_searchable names sys = quasi_searchable names sys (each_measure sys) (each_tried sys)

pub pruned_searchable : PrunedSpacesAreSearchable
pruned_searchable names sys = quasi_searchable names sys (pruned_measures sys) (pruned_tried sys)

all_by : (names : NameTable) (sys : System) (by : MeasureTrials) → AreTrials sys by → IsSearchable sys (all_spaces_by by names sys)
all_by names sys by trials =
    both_searchable sys (ortho_then_peak_space names sys) (quasi_space_by by names sys) (whole_searchable names sys) (quasi_searchable names sys by trials)

pub all_searchable : AllSpacesAreSearchable
all_searchable names sys = all_by names sys (each_measure sys) (each_tried sys)

pub all_pruned_searchable : AllPrunedSpacesAreSearchable
all_pruned_searchable names sys = all_by names sys (pruned_measures sys) (pruned_tried sys)

module _ (names : NameTable) (sys : System) where
  -- the same certificate, where measures are tried in another way
  retried : (by to : MeasureTrials) (c : Certificate) (n : ℕ) (f : IsQuasiFound by names sys c n) (u : ℕ) → to.First f.measure u
      → IsQuasiFound to names sys c (all_items_cost sys f.overlaps + u)
  retried by to c n f u first =
      record {
        overlaps = f.overlaps;
        is_open = f.is_open;
        entries = f.entries;
        paid = f.paid;
        firsts = f.firsts;
        measure = f.measure;
        units = u;
        first = first;
        certificate = f.certificate;
        text = f.text;
        up_to = refl;
      }

  whole_found : (c : Certificate) (n : ℕ) → IsQuasiFound (pruned_measures sys) names sys c n → (k : ℕ) × IsQuasiFound (each_measure sys) names sys c k × (n ≤ k)
  whole_found c n f =
      let at = firsts_are sys f.measure f.units f.first in
      let most = at.2 in
      let e = f.up_to in (all_items_cost sys f.overlaps + at.0, retried (pruned_measures sys) (each_measure sys) c n f at.0 at.1, omega (arith, most, e))

  pruned_found : (c : Certificate) (n : ℕ) → IsQuasiFound (each_measure sys) names sys c n
      → ((k : ℕ) → IsQuasiFound (pruned_measures sys) names sys c k → k ≤ n → ⊥) → ⊥
  pruned_found c n f none = (ends_once sys).not_none (λ u w. by_units u (same_first sys f.measure f.units u f.first w))
    where
      by_units : (u : ℕ) → (pruned_measures sys).First f.measure u × (u ≤ f.units) → ⊥
      by_units u (first, most) =
          let e = f.up_to in none (all_items_cost sys f.overlaps + u) (retried (each_measure sys) (pruned_measures sys) c n f u first) (omega (arith, most, e))

  pruned_cost : (n : ℕ) → IsQuasiCost (each_measure sys) sys n → ((k : ℕ) → IsQuasiCost (pruned_measures sys) sys k → k ≤ n → ⊥) → ⊥
  pruned_cost n (inr (bare, e)) none = none 0 (inr (bare, refl)) (omega arith)
  pruned_cost n (inl (os, h, (u, x, e))) none =
      (ends_once sys).not_none (λ w y. (let less = whole_within sys w y in none (all_items_cost sys os + w) (inl (os, h, (w, y, refl))) (omega (arith, less, x, e))))

  pub quasi_cheaper : IsCheaper (quasi_space_by (pruned_measures sys) names sys) (quasi_space names sys)
  quasi_cheaper = record { dearer_found = whole_found; cheaper_found = pruned_found; cheaper_cost = pruned_cost }

pub pruned_search : PrunedSearchesAreSearches
pruned_search names sys = cheaper_search (quasi_space_by (pruned_measures sys) names sys) (quasi_space names sys) (quasi_cheaper names sys)

pub all_pruned_search : AllPrunedSearchesAreSearches
all_pruned_search names sys =
    cheaper_search (pruned_spaces names sys) (all_spaces names sys)
    (cheaper_behind (ortho_then_peak_space names sys) (quasi_space_by (pruned_measures sys) names sys) (quasi_space names sys) (quasi_cheaper names sys))
