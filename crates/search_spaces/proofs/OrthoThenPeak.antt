-- Each space is searchable, and so are both, one behind the other.
use Rattle.std.proofs.Common.{ℕ, ◌≤◌, inl, inr, arith}
use Rattle.rewriting.specs.Rules.{System}
use Rattle.certificates.specs.Certificates.{Certificate}
use Rattle.cops_names.specs.NameTable.{NameTable}
use Rattle.valid_certificates.specs.Certificates.{IsValid}
use Rattle.first_found.specs.Spaces.{Space, followed_by}
use Rattle.first_found.proofs.Spaces.{both_searched, both_cost, both_once, both_find_once, has_price}
use Rattle.search_spaces.specs.Ortho.{ortho_space}
use Rattle.search_spaces.specs.Peak.{peak_space}
use Rattle.search_spaces.specs.OrthoThenPeak.{ortho_then_peak_space}
use Rattle.search_spaces.specs.Laws.{IsSearchable}
use Rattle.search_spaces.proofs.Ortho.{space_searched, cost_once, has_cost, ortho_finds_once, ortho_finds_within}
use Rattle.search_spaces.proofs.Peak.{peak_searched, peak_cost_once, peak_has_cost, peak_finds_once, peak_finds_within}

pub ortho_searchable : (names : NameTable) (sys : System) → IsSearchable sys (ortho_space names sys)
ortho_searchable names sys =
    record {
      searched = space_searched names sys;
      finds_once = ortho_finds_once names sys;
      finds_within = ortho_finds_within names sys;
      costs_once = cost_once names sys;
      has_cost = has_cost names sys;
      has_price = has_price (ortho_space names sys) (cost_once names sys) (has_cost names sys) (ortho_finds_once names sys);
    }

pub peak_searchable : (names : NameTable) (sys : System) → IsSearchable sys (peak_space names sys)
peak_searchable names sys =
    record {
      searched = peak_searched names sys;
      finds_once = peak_finds_once names sys;
      finds_within = peak_finds_within names sys;
      costs_once = peak_cost_once names sys;
      has_cost = peak_has_cost names sys;
      has_price = has_price (peak_space names sys) (peak_cost_once names sys) (peak_has_cost names sys) (peak_finds_once names sys);
    }

both_within : (sys : System) (S T : Space Certificate) → IsSearchable sys S → IsSearchable sys T → (c : Certificate) (n m : ℕ) → (followed_by S T).Finds c n → (followed_by S T).Costs m → n ≤ m
both_within sys S T s t c n m (inl f) (a, b, x, y, e) = let most = s.finds_within c n a f x in omega (arith, most, e)
both_within sys S T s t c n m (inr (bare, (i, j, z, f, d))) (a, b, x, y, e) =
    let same = s.costs_once i a z x in let most = t.finds_within c j b f y in omega (arith, same, most, d, e)

-- two spaces, one behind the other
pub both_searchable : (sys : System) (S T : Space Certificate) → IsSearchable sys S → IsSearchable sys T → IsSearchable sys (followed_by S T)
both_searchable sys S T s t =
    let costs = both_once S T s.costs_once t.costs_once in
    let there = both_cost S T s.has_cost t.has_cost in
    let finds = both_find_once S T s.costs_once s.finds_once t.finds_once in
    record {
      searched = both_searched S T (IsValid sys) s.searched t.searched s.has_cost;
      finds_once = finds;
      finds_within = both_within sys S T s t;
      costs_once = costs;
      has_cost = there;
      has_price = has_price (followed_by S T) costs there finds;
    }

pub whole_searchable : (names : NameTable) (sys : System) → IsSearchable sys (ortho_then_peak_space names sys)
whole_searchable names sys = both_searchable sys (ortho_space names sys) (peak_space names sys) (ortho_searchable names sys) (peak_searchable names sys)
