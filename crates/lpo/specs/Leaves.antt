-- Terms compared with constants.
use Rattle.std.specs.Prelude.{ℕ, ◌≡◌, Bool, true, false, ◌&&◌, ◌||◌, nat_eq, Option, None, Some}
use Rattle.rewriting.specs.Terms.{Term, var, app, Terms, nil, cons, count}

-- whether a symbol before g, or g without arguments, stands in the term
abbrev mutual
  pub meets : (ℕ → ℕ → Bool) → ℕ → Term → Bool
  meets before g (var x) = false
  meets before g (app h ts) = before h g || ((nat_eq h g && nat_eq (count ts) 0) || do_meet before g ts)

  pub do_meet : (ℕ → ℕ → Bool) → ℕ → Terms → Bool
  do_meet before g nil = false
  do_meet before g (cons t ts) = meets before g t || do_meet before g ts

-- whether a known constant is g or before g
abbrev pub covers : (ℕ → ℕ → Bool) → Option ℕ → ℕ → Bool
covers before None g = false
covers before (Some c) g = nat_eq c g || before c g

-- the terms reach the constant that is known, if there is one
abbrev pub IsKnown : (ℕ → ℕ → Bool) → Terms → Option ℕ → Type 0
IsKnown before ts None = Unit {0}
IsKnown before ts (Some c) = do_meet before c ts ≡ true
