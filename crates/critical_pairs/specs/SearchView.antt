-- The search of the definitions that an `OverlapSearch` stands for.
use Rattle.std.specs.Prelude.{ℕ, ◌≤◌, List, refl}
use Rattle.std.specs.Coded.{Coded, code_by, coded×, coded_ℕ, coded_list}
use Rattle.unifier_run.specs.declared.TheConstants.{MOST_OVERLAPS}
use Rattle.rewriting.specs.Prelude.{System, IsSystem, coded_system}
use Rattle.unifier_run.specs.Overlaps.{Triple}
use Rattle.critical_pairs.specs.Offers.{Search}
use Rattle.critical_pairs.specs.Cursors.{rest_of, IsCursor}
use Rattle.critical_pairs.specs.declared.search.OverlapSearch.TheInside.{Inside}

abbrev pub search_view : Inside → Search
search_view s = record { system = s.sys.now; rest = rest_of s.sys.now s.cursor; offered = s.offered }

-- what a search keeps
pub record IsHeld (s : Inside) : Type 0 where
  pub sound : IsSystem s.sys.now
  pub cursor : IsCursor s.sys.now s.cursor
  pub few : s.offered ≤ MOST_OVERLAPS

-- a code, by which a program's type may have a search as its value
abbrev pub coded_search : Coded Search
coded_search =
    code_by (System × (List Triple × ℕ)) (coded× coded_system (coded× (coded_list (coded× coded_ℕ (coded× (coded_list coded_ℕ) coded_ℕ))) coded_ℕ))
    (λ s. (s.system, (s.rest, s.offered))) (λ p. record { system = p.0; rest = p.1.0; offered = p.1.1 }) (λ _. refl)
