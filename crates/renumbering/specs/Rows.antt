-- Rows of variables, and terms with places of a row for their variables.
use Rattle.std.specs.Prelude.{ℕ, ◌≡◌, ◌<◌, ◌^◌, true, List, length, get_or}
use Rattle.rewriting.specs.Prelude.{Term, var, occurs, Substitution, apply, IsAmong, AreDistinct}

-- no variable is twice in the row, and each has 32 bits; so each place in the row has 32 bits too
pub record IsRow (xs : List ℕ) : Type 0 where
  pub distinct : AreDistinct xs
  pub small : (x : ℕ) → IsAmong x xs → x < 2 ^ 32

-- the number m of a row stands for its variable; the numbers past the row for 0
abbrev pub naming : List ℕ → Substitution
naming xs m = var (get_or xs m 0)

-- u is t with numbers of the row for its variables
pub record IsNumbered (xs : List ℕ) (t u : Term) : Type 0 where
  pub names : t ≡ apply (naming xs) u
  pub below : (m : ℕ) → occurs m u ≡ true → m < length xs
