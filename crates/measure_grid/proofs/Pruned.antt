-- The pruned grid against the grid.
use Rattle.std.proofs.Common.{ℕ, zero, suc, ◌≡◌, ◌<◌, ◌≤◌, List, [], ◌∷◌, ◌++◌, map, flat_map, length, sym, ◌∙◌}
use Rattle.rewriting.specs.Rules.{System}
use Rattle.certificates.specs.Certificates.{LinearEntry, MeasureCertificate}
use Rattle.interpretations.specs.Linear.{Interpretation}
use Rattle.first_found.specs.Items.{GivesNothing, NoneGives, IsFirst, one}
use Rattle.first_found.specs.Trees.{leaves, EndsOnce}
use Rattle.first_found.proofs.Items.{none_append}
use Rattle.measure_grid.specs.Grid.{columns, grid, GivesMeasure}
use Rattle.measure_grid.specs.Dead.{IsDead}
use Rattle.measure_grid.specs.Pruned.{Prefix, extended, extensions, IsDeadPrefix, PrefixGives, start, IsPrunedFirst, IsPrunedBarren, PrunedStops, IsPrunedWhole}
use Rattle.measure_grid.proofs.Dead.{dead_more, dead_or_good}
use Rattle.measure_grid.proofs.Grid.{node, whole, leaves_are, columns_full}
use Rattle.first_found.proofs.Grown.{leaf}
use Rattle.first_found.proofs.PrunedTrees.{ComesToOne, comes_to_end, tree_comes_to_one, stopped_before_whole, first_of_list, none_of_list}

module _ (sys : System) where
  abbrev Gives : Prefix → MeasureCertificate → Type 0
  Gives = PrefixGives sys

  dead_leaf : (p : Prefix) → IsDead sys p.entries → GivesNothing Gives p
  dead_leaf p d m (is, j) = dead_or_good sys p.entries d j.1

  -- below a dead prefix nothing gives anything
  dead_among : (d : ℕ) → ((p : Prefix) → IsDead sys p.entries → NoneGives Gives (leaves extensions d p)) → (es : Interpretation) (behind : List (List LinearEntry))
      → (column : List LinearEntry) → IsDead sys es → NoneGives Gives (flat_map (leaves extensions d) (map (λ e. node (es ++ e ∷ []) behind) column))
  dead_among d below es behind [] dead = tt
  dead_among d below es behind (e ∷ column) dead =
      none_append Gives (leaves extensions d (node (es ++ e ∷ []) behind)) (flat_map (leaves extensions d) (map (λ e. node (es ++ e ∷ []) behind) column))
      (below (node (es ++ e ∷ []) behind) (dead_more es (e ∷ []) sys dead)) (dead_among d below es behind column dead)

  dead_extended : (d : ℕ) → ((p : Prefix) → IsDead sys p.entries → NoneGives Gives (leaves extensions d p)) → (es : Interpretation) (behind : List (List LinearEntry)) → IsDead sys es
      → NoneGives Gives (flat_map (leaves extensions d) (extended es behind))
  dead_extended d below es [] dead = tt
  dead_extended d below es (column ∷ behind) dead = dead_among d below es behind column dead

  dead_below : (d : ℕ) (p : Prefix) → IsDead sys p.entries → NoneGives Gives (leaves extensions d p)
  dead_below zero p dead = (dead_leaf p dead, tt)
  dead_below (suc d) p dead = dead_extended d (λ q x. dead_below d q x) p.entries p.behind dead

  empty : (d : ℕ) (p : Prefix) → IsDeadPrefix sys p → NoneGives Gives (leaves extensions (suc d) p)
  empty d p dead = dead_below (suc d) p dead

  abbrev top : ℕ
  top = length (columns sys)

  leaves_grid : leaves extensions top (start sys) ≡ map (leaf extensions whole []) (grid sys)
  leaves_grid = leaves_are (columns sys) []

  pub firsts_are : (m : MeasureCertificate) (n : ℕ) → IsPrunedFirst sys m n → (k : ℕ) × IsFirst one (GivesMeasure sys) (grid sys) m k × (n ≤ k)
  firsts_are =
      first_of_list extensions (IsDeadPrefix sys) Gives top (start sys) (leaf extensions whole []) (GivesMeasure sys) (λ a b g. g) (λ a b g. g) (grid sys) leaves_grid (columns_full sys []) empty

  pub barren_is : (n : ℕ) → IsPrunedBarren sys n → NoneGives (GivesMeasure sys) (grid sys) × (n ≤ length (grid sys))
  barren_is =
      none_of_list extensions (IsDeadPrefix sys) Gives top (start sys) (leaf extensions whole []) (GivesMeasure sys) (λ a b g. g) (λ a b g. g) (grid sys) leaves_grid (columns_full sys []) empty

  pub comes_to_one : ComesToOne (IsPrunedFirst sys) (IsPrunedBarren sys)
  comes_to_one = tree_comes_to_one extensions (IsDeadPrefix sys) Gives top (start sys) (λ p m k x y. x.0 ∙ sym y.0)

  pub ends_once : EndsOnce (IsPrunedWhole sys)
  ends_once = comes_to_end (IsPrunedFirst sys) (IsPrunedBarren sys) comes_to_one

  pub stops_before_whole : (n m : ℕ) → PrunedStops sys n → IsPrunedWhole sys m → n < m
  stops_before_whole = stopped_before_whole extensions (IsDeadPrefix sys) Gives top (start sys)
