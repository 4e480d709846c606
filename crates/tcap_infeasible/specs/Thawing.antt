-- The cap of a term in its own variables and symbols: u is a frozen cap that lies on t.
use Rattle.std.specs.Prelude.{ℕ, ◌+◌, ◌-◌, ◌^◌, ◌<◌, ◌≤◌}
use Rattle.rewriting.specs.Terms.{Term, var, app, Terms, nil, cons}

-- the holes, which are numbers from 2^31 on, have numbers in 32 bits when they are counted from `fresh`; below a symbol
-- of u stands a variable of t, or a symbol with as many arguments
abbrev mutual
  pub LiesOn : ℕ → Term → Term → Type 0
  LiesOn fresh (var x) (var h) = (2 ^ 31 ≤ h) × (fresh + (h - 2 ^ 31) < 2 ^ 32)
  LiesOn fresh (var x) (app g us) = Unit {0}
  LiesOn fresh (app f ts) (var h) = (2 ^ 31 ≤ h) × (fresh + (h - 2 ^ 31) < 2 ^ 32)
  LiesOn fresh (app f ts) (app g us) = LieOn fresh ts us

  pub LieOn : ℕ → Terms → Terms → Type 0
  LieOn fresh nil nil = Unit {0}
  LieOn fresh nil (cons u us) = ⊥
  LieOn fresh (cons t ts) nil = ⊥
  LieOn fresh (cons t ts) (cons u us) = LiesOn fresh t u × LieOn fresh ts us

-- the holes counted from `fresh`, the variables and symbols those of t
abbrev mutual
  pub thawed : ℕ → Term → Term → Term
  thawed fresh (var x) (var h) = var (fresh + (h - 2 ^ 31))
  thawed fresh (var x) (app g us) = var x
  thawed fresh (app f ts) (var h) = var (fresh + (h - 2 ^ 31))
  thawed fresh (app f ts) (app g us) = app f (all_thawed fresh ts us)

  pub all_thawed : ℕ → Terms → Terms → Terms
  all_thawed fresh nil us = nil
  all_thawed fresh (cons t ts) nil = nil
  all_thawed fresh (cons t ts) (cons u us) = cons (thawed fresh t u) (all_thawed fresh ts us)
