-- A row of numbers, with numbers past all of them behind it, is one to one.
use Rattle.std.proofs.Common.{ℕ, zero, suc, ◌≡◌, ◌+◌, ◌<◌, ◌≤◌, List, [], ◌∷◌, length, get_or, arith}
use Rattle.rewriting.specs.Lists.{AreDistinct}
use Rattle.rewriting.proofs.Lists.{distinct_at}
use Rattle.renumbering.proofs.Parted.{parted, parted_below, parted_one}

abbrev pub total : List ℕ → ℕ
total [] = 0
total (x ∷ xs) = x + total xs

abbrev pub filling : List ℕ → ℕ → ℕ
filling row = parted (length row) (λ m. get_or row m 0) (λ m. suc (total row + m))

pub below_total : (row : List ℕ) (m : ℕ) → get_or row m 0 ≤ total row
below_total [] m = omega arith
below_total (x ∷ row) zero = omega arith
below_total (x ∷ row) (suc m) = let k = below_total row m in omega (arith, k)

pub filling_within : (row : List ℕ) (m : ℕ) → m < length row → filling row m ≡ get_or row m 0
filling_within row m h = parted_below (length row) (λ m. get_or row m 0) (λ m. suc (total row + m)) m h

pub filling_one : (row : List ℕ) → AreDistinct row → (x y : ℕ) → filling row x ≡ filling row y → x ≡ y
filling_one row distinct =
    parted_one (length row) (λ m. get_or row m 0) (λ m. suc (total row + m)) (distinct_at row distinct) (λ x y e. omega (arith, e))
    (λ x y h e. let l = below_total row x in omega (arith, e, l))
