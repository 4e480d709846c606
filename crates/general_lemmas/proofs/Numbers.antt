-- Numbers compared, and what a test counts.
use Rattle.std.proofs.Common.{◌≡◌, ◌⊎◌, inl, inr, ℕ, suc, ◌+◌, ◌<◌, ◌≤◌, Bool, true, false, if◌then◌else◌, not, ◌||◌, nat_eq, refl, arith, eqb-true}
use Rattle.std.proofs.lemmas.Bool.{cases_lt, cases_eq}

pub le_or_lt : (m n : ℕ) → (m ≤ n) ⊎ (n < m)
le_or_lt m n = turned (cases_lt n m)
  where
    turned : (n < m) ⊎ (m ≤ n) → (m ≤ n) ⊎ (n < m)
    turned (inl h) = inr h
    turned (inr h) = inl h

pub le_or_next : (m n : ℕ) → m ≤ suc n → (m ≤ n) ⊎ (m ≡ suc n)
le_or_next m n h = told (cases_eq m (suc n))
  where
    told : (m ≡ suc n) ⊎ (m ≡ suc n → ⊥) → (m ≤ n) ⊎ (m ≡ suc n)
    told (inl e) = inr e
    told (inr k) = inl (omega (arith, h, k))

-- a test counts once at most
pub one_at_most : (b : Bool) → (if b then 1 else 0) ≤ 1
one_at_most true = omega arith
one_at_most false = omega arith

pub first_only : (b : Bool) → (b || false) ≡ true → b ≡ true
first_only true e = refl
first_only false e = e

pub lt_or_last : (m n : ℕ) → m < n + 1 → (m < n) ⊎ (m ≡ n)
lt_or_last m n h = search arith

-- what differs is not counted
pub not_counted : (m n : ℕ) → (m ≡ n → ⊥) → ◌≡◌ {A = ℕ} (if nat_eq m n then 1 else 0) 0
not_counted m n k = by (nat_eq m n) refl
  where
    by : (b : Bool) → nat_eq m n ≡ b → ◌≡◌ {A = ℕ} (if b then 1 else 0) 0
    by true e = absurd (k (eqb-true m n e))
    by false e = refl

pub not_true : (b : Bool) → not b ≡ true → b ≡ true → ⊥
not_true true e h = cc
not_true false e h = cc
