-- How many nodes and variables a term has.
use Rattle.std.proofs.Common.{ℕ, ◌≡◌, ◌+◌, ◌≤◌, Bool, true, false, nat_eq, if◌then◌else◌, List, [], ◌∷◌, ◌++◌, length, arith, length-append}
use Rattle.std.specs.List.{list_any}
use Rattle.rewriting.specs.Terms.{Term, Terms, var, app, nil, cons, size, size_all}
use Rattle.rewriting.specs.Variables.{with_new, with_variables, with_variables_of}

pub size_positive : (t : Term) → 1 ≤ size t
size_positive (var x) = omega arith
size_positive (app f ts) = omega arith

-- a row grows by no more variables than a term has nodes
new_length : (xs : List ℕ) (y : ℕ) → length (with_new xs y) ≤ length xs + 1
new_length xs y = go (list_any (nat_eq y) xs)
  where
    go : (b : Bool) → length (if b then xs else (xs ++ y ∷ [])) ≤ length xs + 1
    go true = omega arith
    go false = (let e : length (xs ++ y ∷ []) ≡ length xs + 1 = length-append xs (y ∷ []) in omega (arith, e))

mutual
  pub variables_length : (xs : List ℕ) (t : Term) → length (with_variables xs t) ≤ length xs + size t
  variables_length xs (var y) = new_length xs y
  variables_length xs (app f ts) = let k = all_variables_length xs ts in omega (arith, k)

  all_variables_length : (xs : List ℕ) (ts : Terms) → length (with_variables_of xs ts) ≤ length xs + size_all ts
  all_variables_length xs nil = omega arith
  all_variables_length xs (cons t ts) =
      let first = variables_length xs t in let rest = all_variables_length (with_variables xs t) ts in omega (arith, first, rest)
