-- The numbers that are tried for a symbol.
use Rattle.std.specs.Prelude.{ℕ, ◌≡◌, ◌<◌, ◌≤◌, List, Some, length, slice_get}
use Rattle.rewriting.specs.Unraveling.{Head, file, auxiliary}

-- at this place of a count of numbers 0 is not tried
abbrev pub IsOneAtLeast : Head → ℕ → ℕ → Type 0
IsOneAtLeast (file f) count place = 2 ≤ count
IsOneAtLeast (auxiliary i k) count place = (2 ≤ count) × (place < 2)

-- a number that may stand there
pub record IsTriedAt (head : Head) (count place c : ℕ) : Type 0 where
  pub small : c ≤ 6
  pub least : IsOneAtLeast head count place → 1 ≤ c

-- each number may stand where it is, in a list of so many
abbrev pub AreTriedOf : Head → ℕ → List ℕ → Type 0
AreTriedOf head count cs = (k c : ℕ) → slice_get cs k ≡ Some c → IsTriedAt head count k c

abbrev pub AreTried : Head → List ℕ → Type 0
AreTried head cs = AreTriedOf head (length cs) cs
