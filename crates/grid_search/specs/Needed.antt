-- The first entries that a rule needs.
use Rattle.std.specs.Prelude.{ℕ, suc, ◌<◌, max, nat_eq, List, [], ◌∷◌}
use Rattle.rewriting.specs.Prelude.{Term, var, app, Terms, nil, cons, Rule, numbers_where}

-- the least number of first entries among which each symbol of the term has one: one more than the greatest symbol
abbrev mutual
  pub needed : Term → ℕ
  needed (var x) = 0
  needed (app f ts) = max (suc f) (needed_by ts)

  pub needed_by : Terms → ℕ
  needed_by nil = 0
  needed_by (cons t ts) = max (needed t) (needed_by ts)

-- the same for both sides of a rule
abbrev pub needed_at : Rule → ℕ
needed_at r = max (needed r.left) (needed r.right)

-- each rule needs fewer than n
abbrev pub DoNeedBelow : ℕ → List Rule → Type 0
DoNeedBelow n [] = Unit {0}
DoNeedBelow n (r ∷ rs) = (needed_at r < n) × DoNeedBelow n rs

-- the numbers of the rules, counted from n, that need the first k entries and no more
abbrev pub numbers_needing : ℕ → ℕ → List Rule → List ℕ
numbers_needing k = numbers_where (λ r. nat_eq k (needed_at r))
