-- Counting the variables of a row of numbers.
use Rattle.std.specs.Prelude.{ℕ, suc, ◌+◌, ◌≤◌, ◌<◌, ◌⊎◌, Bool, true, false, List, [], ◌∷◌, Option, None, Some}

-- one where it is marked
abbrev pub bit : Bool → ℕ
bit true = 1
bit false = 0

-- the counts of k, k + 1, .., grown by what f says of each
abbrev pub with_counts : (ℕ → ℕ) → ℕ → List ℕ → List ℕ
with_counts f k [] = []
with_counts f k (n ∷ ns) = (n + f k) ∷ with_counts f (suc k) ns

-- a number is counted twice
abbrev pub HasTwo : List ℕ → Type 0
HasTwo [] = ⊥
HasTwo (n ∷ ns) = (2 ≤ n) ⊎ HasTwo ns

-- the number is below the other, where there is one
abbrev pub IsBelow : ℕ → Option ℕ → Type 0
IsBelow x None = Unit {0}
IsBelow x (Some y) = x < y
