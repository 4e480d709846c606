-- Paths that go on and come back.
use Rattle.std.proofs.Common.{◌≡◌, ℕ, List, [], ◌∷◌, ◌++◌, map, length, take, drop, None, Some, option_map, sym, ap, ap₂, ◌∙◌, le_refl}
use Rattle.std.proofs.lemmas.List.{take_all, take-append-le}
use Rattle.rewriting.specs.Prelude.{Bindings, IsLeastMatch, HasNoMatch, Condition, match_onto}
use Rattle.matching.specs.Trails.{without, IsNoted}
use Rattle.matching.proofs.Noted.{noted_back, noted_before}
use Rattle.reach_lists.specs.Solutions as lists
use Rattle.origins.specs.OriginView.{origin_view}
use Rattle.origins.specs.declared.Origin.{Origin}
use Rattle.reach.specs.PathView.{path_view, IsSamePath, IsEntered, IsMissed}
use Rattle.reach.specs.declared.solutions.Path.{Path}
use Rattle.reach.proofs.Solving.{solution_found, solution_missed}
use Rattle.reach.proofs.Offered.{map_push}
use Rattle.std.specs.FinMap.{empty}
use Rattle.rewriting.specs.Terms as math
use Rattle.rewriting.proofs.MatchedOnto.{least_found, none_found}
use Rattle.reach_lists.specs.Lists.{unconditional}

abbrev pub solved : Bindings → List Origin → lists.Solution
solved v os = record { values = v; by = map origin_view os }

pub same_view : (p q : Path) → IsSamePath p q → path_view q ≡ path_view p
same_view p q h = ap₂ solved h.values h.by

pub same_both : (p q r : Path) → IsSamePath p q → IsSamePath q r → IsSamePath p r
same_both p q r h k = record { values = k.values ∙ h.values; trail = k.trail ∙ h.trail; by = k.by ∙ h.by }

-- a condition, and a term of its list
module _ (c : Condition) (w : lists.Reached) (p q : Path) (noted : IsNoted p.values p.trail.items q.values q.trail.items) where
  pub entered : (m : Origin) → IsLeastMatch p.values q.values c.right w.term → q.by.items ≡ p.by.items ++ m ∷ [] → origin_view m ≡ w.by → IsEntered c w p q
  entered m least pushed is = record {
    found =
        sym (solution_found c (path_view p) w q.values (map origin_view q.by.items) least
        (ap (map origin_view) pushed ∙ map_push origin_view p.by.items m ∙ ap (λ z. map origin_view p.by.items ++ z ∷ []) is));
    ahead = record {
      values = noted_back p.values q.values p.trail.items q.trail.items noted;
      trail = noted_before p.values q.values p.trail.items q.trail.items noted;
      by =
          ap (take (length p.by.items)) pushed ∙ take-append-le (length p.by.items) p.by.items (m ∷ []) (le_refl (length p.by.items))
          ∙ take_all (length p.by.items) p.by.items (le_refl (length p.by.items));
    };
  }

  pub missed : (r : Path) (from : ℕ) → HasNoMatch p.values c.right w.term → from ≡ length p.trail.items
      → r.values ≡ without q.values (drop from q.trail.items) → r.trail.items ≡ take from q.trail.items → r.by.items ≡ p.by.items → IsMissed c w p r
  missed r from unlike e values trail by = record {
    none = sym (solution_missed c (path_view p) w unlike);
    same = record {
      values = values ∙ ap (λ n. without q.values (drop n q.trail.items)) e ∙ noted_back p.values q.values p.trail.items q.trail.items noted;
      trail = trail ∙ ap (λ n. take n q.trail.items) e ∙ noted_before p.values q.values p.trail.items q.trail.items noted;
      by = by;
    };
  }

-- the match of a left side
module _ (left part : math.Term) where
  pub match_found : (b : Bindings) (p : Path) → b ≡ empty → IsLeastMatch b p.values left part → p.by.items ≡ [] → Some (path_view p) ≡ option_map unconditional (match_onto empty left part)
  match_found b p e least none =
      ap (λ ms. Some (solved p.values ms)) none
      ∙ sym (ap (option_map unconditional) (ap (λ c. match_onto c left part) (sym e) ∙ least_found b p.values left part least))

  pub match_missed : (b : Bindings) → b ≡ empty → HasNoMatch b left part → None ≡ option_map unconditional (match_onto empty left part)
  match_missed b e unlike = sym (ap (option_map unconditional) (ap (λ c. match_onto c left part) (sym e) ∙ none_found b left part unlike))
