-- The turns of the loops over an entry's numbers.
use Rattle.std.proofs.Common.{ℕ, suc, ◌≡◌, ◌+◌, ◌-◌, ◌<◌, ◌≤◌, List, [], ◌∷◌, ◌++◌, length, get_or, set, take, sym, subst, arith}
use Rattle.std.proofs.lemmas.List.{get_or_read, take_all}
use Rattle.rewriting.specs.Unraveling.{Head}
use Rattle.measure_grid.specs.Grid.{ranges}
use Rattle.measure_grid.proofs.Choices.{AreFirsts, AreFrom, from_length, choices_begin}
use Rattle.measure_grid.proofs.Shape.{ranges_long}
use Rattle.grid_search.specs.Columns.{AreTriedAt, IsFirstOf, FollowsIn, IsLastOf}
use Rattle.grid_search.proofs.Columns.{entry_with, first_of, last_of, follows_in}
use Rattle.grid_search.proofs.Odometer.{IsReset, nothing_reset, all_reset, reset_more, raised, firsts_more}

-- one number more of the first entry
pub first_more : (head : Head) (arity place low high : ℕ) (xs : List ℕ) → place ≤ arity → AreTriedAt head arity place low high → AreFirsts xs (take place (ranges head arity))
    → AreFirsts (xs ++ low ∷ []) (take (place + 1) (ranges head arity))
first_more head arity place low high xs within (more, e, at) h = firsts_more (ranges head arity) xs place low more (let long = ranges_long head arity in omega (arith, long, within)) at h

pub first_made : (head : Head) (arity place : ℕ) (xs : List ℕ) → suc arity ≤ place → AreFirsts xs (take place (ranges head arity)) → IsFirstOf head arity (entry_with head xs)
first_made head arity place xs all h =
    let whole = take_all place (ranges head arity) (let long = ranges_long head arity in omega (arith, long, all)) in
    first_of head arity xs (choices_begin xs (ranges head arity) (subst (AreFirsts xs) whole h))

-- before the first turn
pub none_reset : (head : Head) (arity count : ℕ) (old : List ℕ) → length old ≡ count → AreFrom old (ranges head arity) → IsReset (ranges head arity) old old count
none_reset head arity count old counted from =
    let same = from_length old (ranges head arity) from in nothing_reset (ranges head arity) old count (omega (arith, counted)) (omega (arith, counted, same))

pub none_left : (head : Head) (arity place : ℕ) (old new : List ℕ) → place ≤ 0 → IsReset (ranges head arity) old new place → IsLastOf head arity (entry_with head old)
none_left head arity place old new none reset =
    let nought : place ≡ 0 = omega (arith, none) in last_of head arity old (all_reset (ranges head arity) old new (subst (IsReset (ranges head arity) old new) nought reset))

-- a turn at the place before `place`, where x stands
module _ (head now : Head) (arity count place low high x : ℕ) (old new : List ℕ) (kept : now ≡ head) (some : 0 < place) (within : place ≤ count) (counted : length new ≡ count)
    (tried : (n : ℕ) → count ≡ suc n → AreTriedAt now n (place - 1) low high) (here : x ≡ get_or new (place - 1) x) (from : AreFrom old (ranges head arity))
    (reset : IsReset (ranges head arity) old new place) where
  at_place : AreTriedAt head arity (place - 1) low high
  at_place =
      let same = from_length old (ranges head arity) from in
      let long = ranges_long head arity in
      let many = reset.as_many in
      subst (λ h. AreTriedAt h arity (place - 1) low high) kept (tried arity (omega (arith, same, long, many, counted)))

  inside : place ≤ length old
  inside = let many = reset.as_many in omega (arith, many, counted, within)

  stands : x ≡ get_or new (place - 1) 0
  stands = get_or_read new (place - 1) x (omega (arith, counted, within, some)) here 0

  pub turn_back : high ≤ x → IsReset (ranges head arity) old (set new (place - 1) low) (place - 1)
  turn_back most =
      let top = at_place.1 in
      reset_more (ranges head arity) old new place (place - 1) low at_place.0 x (omega (arith, some)) from inside at_place.2 reset stands (omega (arith, top, most))

  pub turn_up : x < high → FollowsIn head arity (entry_with head old) (entry_with now (set new (place - 1) (x + 1)))
  turn_up less =
      let top = at_place.1 in
      subst (λ h. FollowsIn head arity (entry_with head old) (entry_with h (set new (place - 1) (x + 1)))) (sym kept)
      (follows_in head arity old (set new (place - 1) (x + 1))
      (raised (ranges head arity) old new place (place - 1) low at_place.0 x (omega (arith, some)) from inside at_place.2 reset stands (omega (arith, top, less))))
