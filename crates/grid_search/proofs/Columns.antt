-- The entries that are tried for a symbol: what their numbers are made of, and that none is there twice.
use Rattle.std.proofs.Common.{ℕ, zero, suc, ◌≡◌, List, ◌∷◌, ◌++◌, replicate, sym, ap, ◌∙◌, subst, arith}
use Rattle.rewriting.specs.Prelude.{IsAmong, AreDistinct, Head, file, auxiliary}
use Rattle.rewriting.proofs.Lists.{among_middle, among_of_map}
use Rattle.certificates.specs.Certificates.{LinearEntry}
use Rattle.measure_grid.specs.Grid.{choices, active_numbers, passive_numbers, constant_numbers, ranges, entries_of}
use Rattle.measure_grid.proofs.Choices.{AreFrom, choices_from, AreAllDistinct, choices_distinct, distinct_map, place_once, Begins, Ends, Follows, begins_map, ends_map, follows_map}
use Rattle.grid_search.specs.Columns.{IsFirstOf, FollowsIn, IsLastOf, IsIn}

abbrev pub entry_with : Head → List ℕ → LinearEntry
entry_with head numbers = record { head = head; coefficients = numbers }

-- choices of numbers are entries
module _ (head : Head) (arity : ℕ) where
  pub first_of : (xs : List ℕ) → Begins (choices (ranges head arity)) xs → IsFirstOf head arity (entry_with head xs)
  first_of xs h = begins_map (entry_with head) (choices (ranges head arity)) xs h

  pub last_of : (xs : List ℕ) → Ends (choices (ranges head arity)) xs → IsLastOf head arity (entry_with head xs)
  last_of xs h = ends_map (entry_with head) (choices (ranges head arity)) xs h

  pub follows_in : (xs ys : List ℕ) → Follows (choices (ranges head arity)) xs ys → FollowsIn head arity (entry_with head xs) (entry_with head ys)
  follows_in xs ys h = follows_map (entry_with head) (choices (ranges head arity)) xs ys h

  among_column : (e : LinearEntry) → IsIn head arity e → IsAmong e (entries_of (head, arity))
  among_column e (before, behind, split) = subst (IsAmong e) (sym split) (among_middle e before behind)

  pub numbers_from_ranges : (e : LinearEntry) → IsIn head arity e → AreFrom e.coefficients (ranges head arity)
  numbers_from_ranges e h =
      let at = among_of_map (entry_with head) e (choices (ranges head arity)) (among_column e h) in
      subst (λ (d : LinearEntry). AreFrom d.coefficients (ranges head arity)) (sym at.2) (choices_from (ranges head arity) at.0 at.1)

many_distinct : (n : ℕ) (l : List ℕ) → AreDistinct l → AreAllDistinct (replicate n l)
many_distinct zero l d = tt
many_distinct (suc n) l d = (d, many_distinct n l d)

constant_distinct : AreDistinct constant_numbers
constant_distinct = (λ a. grind (arith, a), (λ a. grind (arith, a), (λ a. grind (arith, a), (λ a. a, tt))))

active_distinct : AreDistinct active_numbers
active_distinct = (λ a. grind (arith, a), (λ a. grind (arith, a), (λ a. a, tt)))

passive_distinct : AreDistinct passive_numbers
passive_distinct = (λ a. grind (arith, a), (λ a. a, tt))

ranges_distinct : (head : Head) (arity : ℕ) → AreAllDistinct (ranges head arity)
ranges_distinct head zero = (constant_distinct, tt)
ranges_distinct (file f) (suc n) = (active_distinct, (active_distinct, many_distinct n active_numbers active_distinct))
ranges_distinct (auxiliary i k) (suc n) = (active_distinct, (active_distinct, many_distinct n passive_numbers passive_distinct))

module _ (head : Head) (arity : ℕ) where
  column_distinct : AreDistinct (entries_of (head, arity))
  column_distinct = distinct_map (entry_with head) (λ a b e. ap (λ (d : LinearEntry). d.coefficients) e) (choices (ranges head arity))
      (choices_distinct (ranges head arity) (ranges_distinct head arity))

  -- an entry has one place
  pub one_place : (e : LinearEntry) (before behind other rest : List LinearEntry) → entries_of (head, arity) ≡ before ++ e ∷ behind → entries_of (head, arity) ≡ other ++ e ∷ rest
      → (before ≡ other) × (behind ≡ rest)
  one_place e before behind other rest split again = place_once e before behind other rest (subst AreDistinct split column_distinct) (sym split ∙ again)
