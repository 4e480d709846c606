-- What walks over terms find.
use Rattle.std.specs.Prelude.{ℕ, ◌≡◌, length, Result, Ok, Err, ◌||◌, not, ◌+◌, Bool, true, false, nat_lt, if◌then◌else◌, List, [], ◌∷◌, Option, None, Some}
use Rattle.rewriting.specs.Terms.{Term, Terms, var, app, nil, cons}

abbrev pub first_some : Option ℕ → Option ℕ → Option ℕ
first_some None other = other
first_some (Some x) other = Some x

-- whether the two are the same
abbrev pub same : Bool → Bool → Bool
same true b = b
same false b = not b

-- the first number that passes the test
abbrev pub first_where : (ℕ → Bool) → List ℕ → Option ℕ
first_where test [] = None
first_where test (x ∷ xs) = if test x then Some x else first_where test xs

-- whether some number passes the test
abbrev pub any_where : (ℕ → Bool) → List ℕ → Bool
any_where test [] = false
any_where test (x ∷ xs) = test x || any_where test xs

-- where n numbers were seen: the first that is below the count of those before it
abbrev pub first_seen : ℕ → List ℕ → Option ℕ
first_seen n [] = None
first_seen n (x ∷ xs) = if nat_lt x n then Some x else first_seen (n + 1) xs

-- the first number that is below the count of those before it, or the count at the end
abbrev pub SeenAnswers : ℕ → List ℕ → Result ℕ ℕ → Type 0
SeenAnswers n xs (Ok m) = (first_seen n xs ≡ None) × (m ≡ n + length xs)
SeenAnswers n xs (Err x) = first_seen n xs ≡ Some x

-- whether some variable occurs
abbrev mutual
  pub is_open : Term → Bool
  is_open (var x) = true
  is_open (app f ts) = are_open ts

  pub are_open : Terms → Bool
  are_open nil = false
  are_open (cons t ts) = is_open t || are_open ts
