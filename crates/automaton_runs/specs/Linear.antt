-- A term with its variable occurrences numbered.
use Rattle.std.specs.Prelude.{ℕ, ◌+◌, length}
use Rattle.rewriting.specs.Prelude.{Term, var, app, Terms, nil, cons, variable_occurrences}

-- the term with the numbers from i on for its variables as they occur, from left to right
abbrev mutual
  pub linear : ℕ → Term → Term
  linear i (var x) = var i
  linear i (app f ts) = app f (linear_all i ts)

  pub linear_all : ℕ → Terms → Terms
  linear_all i nil = nil
  linear_all i (cons t ts) = cons (linear i t) (linear_all (i + length (variable_occurrences t)) ts)
