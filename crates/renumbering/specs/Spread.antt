-- Variables numbered by first occurrence, and what the numbers stand for.
use Rattle.std.specs.Prelude.{ℕ, ◌+◌, ◌-◌, ◌*◌, nat_lt, if◌then◌else◌, List, length, get_or}
use Rattle.rewriting.specs.Prelude.{var, Substitution}

-- the number m of a row of variables stands for the odd number of its variable; the numbers past the row for 0, 2, 4, ..
abbrev pub spread : List ℕ → ℕ → ℕ
spread xs m = if nat_lt m (length xs) then 2 * get_or xs m 0 + 1 else 2 * (m - length xs)

abbrev pub spreading : List ℕ → Substitution
spreading xs m = var (spread xs m)
