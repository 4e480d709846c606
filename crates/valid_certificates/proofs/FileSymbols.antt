-- Whether a term has only symbols below a number.
use Rattle.std.proofs.Common.{ℕ, ◌≤◌, ◌<◌, ◌⊎◌, inl, inr, arith}
use Rattle.general_lemmas.proofs.Numbers.{le_or_lt}
use Rattle.rewriting.specs.Signatures.{HasSymbolsBelow, HaveSymbolsBelow}
use Rattle.rewriting.proofs.Common.{Term, var, app, Terms, nil, cons}
use Rattle.rewriting.proofs.Decided.{IsDecided, both}

less : (f n : ℕ) → IsDecided (f < n)
less f n = go (le_or_lt n f)
  where
    go : (n ≤ f) ⊎ (f < n) → IsDecided (f < n)
    go (inl le) = inr (λ lt. omega (arith, le, lt))
    go (inr lt) = inl lt

mutual
  pub below_decided : (n : ℕ) (t : Term) → IsDecided (HasSymbolsBelow n t)
  below_decided n (var x) = inl tt
  below_decided n (app f ts) = both (λ a b. (a, b)) (λ p. p.0) (λ p. p.1) (less f n) (all_below_decided n ts)

  pub all_below_decided : (n : ℕ) (ts : Terms) → IsDecided (HaveSymbolsBelow n ts)
  all_below_decided n nil = inl tt
  all_below_decided n (cons t ts) = both (λ a b. (a, b)) (λ p. p.0) (λ p. p.1) (below_decided n t) (all_below_decided n ts)
