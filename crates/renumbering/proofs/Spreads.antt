-- What the numbers of a row stand for.
use Rattle.std.proofs.Common.{◌≡◌, ℕ, ◌+◌, ◌-◌, ◌*◌, ◌<◌, ◌≤◌, true, List, length, get_or, sym, ap, ◌∙◌, arith}
use Rattle.rewriting.specs.Prelude.{Term, var, occurs, apply, compose, odd, AreDistinct}
use Rattle.rewriting.proofs.Instances.{apply-apply, apply-agree}
use Rattle.renumbering.specs.Spread.{spread, spreading}
use Rattle.renumbering.specs.Rows.{naming}
use Rattle.rewriting.proofs.Lists.{distinct_at}
use Rattle.renumbering.proofs.Parted.{parted_below, parted_from, parted_one}

pub spread_within : (xs : List ℕ) (m : ℕ) → m < length xs → spread xs m ≡ 2 * get_or xs m 0 + 1
spread_within xs = parted_below (length xs) (λ m. 2 * get_or xs m 0 + 1) (λ m. 2 * m)

pub spread_past : (xs : List ℕ) (m : ℕ) → length xs ≤ m → spread xs m ≡ 2 * (m - length xs)
spread_past xs = parted_from (length xs) (λ m. 2 * get_or xs m 0 + 1) (λ m. 2 * m)

-- no two numbers stand for one
pub spread_one_to_one : (xs : List ℕ) → AreDistinct xs → (i j : ℕ) → spread xs i ≡ spread xs j → i ≡ j
spread_one_to_one xs d =
    parted_one (length xs) (λ m. 2 * get_or xs m 0 + 1) (λ m. 2 * m) (λ i j a b e. distinct_at xs d i j a b (omega (arith, e))) (λ i j e. omega (arith, e))
    (λ i j a e. omega (arith, e))

-- the odd numbers of the variables of t are what the numbers of u stand for
pub odd_is_spread : (xs : List ℕ) (t u : Term) → t ≡ apply (naming xs) u → ((m : ℕ) → occurs m u ≡ true → m < length xs) → apply odd t ≡ apply (spreading xs) u
odd_is_spread xs t u e below =
    ap (apply odd) e ∙ apply-apply (naming xs) odd u ∙ apply-agree (compose (naming xs) odd) (spreading xs) u (λ m o. ap var (sym (spread_within xs m (below m o))))
