-- The numbers that are tried at a place, by what is known of the symbol and the place.
use Rattle.std.proofs.Common.{ℕ, zero, suc, ◌≡◌, ◌<◌, ◌≤◌, [], refl, arith}
use Rattle.std.proofs.lemmas.List.{get_or-replicate}
use Rattle.rewriting.specs.Unraveling.{Head, file, auxiliary}
use Rattle.measure_grid.specs.Grid.{active_numbers, passive_numbers}
use Rattle.grid_search.specs.Columns.{AreTriedAt}

pub constant_tried : (head : Head) (arity place : ℕ) → arity ≡ 0 → place < 1 → AreTriedAt head arity place 0 3
constant_tried head zero zero none first = (3, refl, refl)
constant_tried head zero (suc place) none first = absurd (omega (arith, first))
constant_tried head (suc arity) place none first = absurd (omega (arith, none))

pub passive_tried : (i k arity place : ℕ) → 2 ≤ place → place ≤ arity → AreTriedAt (auxiliary i k) arity place 0 1
passive_tried i k zero place late within = absurd (omega (arith, late, within))
passive_tried i k (suc n) zero late within = absurd (omega (arith, late))
passive_tried i k (suc n) (suc zero) late within = absurd (omega (arith, late))
passive_tried i k (suc n) (suc (suc j)) late within = (1, refl, get_or-replicate n j passive_numbers [] (omega (arith, within)))

pub first_tried : (head : Head) (arity place : ℕ) → 1 ≤ arity → place < 2 → AreTriedAt head arity place 1 3
first_tried head zero place some early = absurd (omega (arith, some))
first_tried (file f) (suc n) zero some early = (2, refl, refl)
first_tried (file f) (suc n) (suc zero) some early = (2, refl, refl)
first_tried (auxiliary i k) (suc n) zero some early = (2, refl, refl)
first_tried (auxiliary i k) (suc n) (suc zero) some early = (2, refl, refl)
first_tried head (suc n) (suc (suc j)) some early = absurd (omega (arith, early))

pub active_tried : (f arity place : ℕ) → 1 ≤ arity → place ≤ arity → AreTriedAt (file f) arity place 1 3
active_tried f zero place some within = absurd (omega (arith, some))
active_tried f (suc n) zero some within = (2, refl, refl)
active_tried f (suc n) (suc zero) some within = (2, refl, refl)
active_tried f (suc n) (suc (suc j)) some within = (2, refl, get_or-replicate n j active_numbers [] (omega (arith, within)))
