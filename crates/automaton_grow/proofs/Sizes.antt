-- How many subterms there are.
use Rattle.std.proofs.Common.{◌≤◌, arith}
use Rattle.rewriting.specs.Terms.{Term, var, app, Terms, nil, cons, size, size_all}
use Rattle.automata.specs.Growth.{inner, inner_in}

mutual
  pub inner_size : (t : Term) → inner t ≤ size t
  inner_size (var x) = omega arith
  inner_size (app f ts) = let h = inner_in_size ts in omega arith

  pub inner_in_size : (ts : Terms) → inner_in ts ≤ size_all ts
  inner_in_size nil = omega arith
  inner_in_size (cons t ts) = let h = inner_size t in let k = inner_in_size ts in omega arith
