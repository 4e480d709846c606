-- How the number of splices rises, part by part.
use Rattle.std.proofs.Common.{◌≡◌, ℕ, ◌+◌, ◌-◌, ◌^◌, min, inl, inr, ⊎_elim, arith}
use Rattle.general_lemmas.proofs.Numbers.{le_or_lt}
use Rattle.flatterm.specs.Work.{HasRisen}

pub risen_none : (a : ℕ) → HasRisen a 0 a
risen_none a = inl (omega arith)

-- one splice, counted up to the greatest number
pub risen_once : (a b : ℕ) → b ≡ min (a + 1) (2 ^ 64 - 1) → HasRisen a 1 b
risen_once a b e = ⊎_elim (λ h. inl (omega (arith, e, h))) (λ h. inr (omega (arith, e, h))) (le_or_lt (a + 1) (2 ^ 64 - 1))

pub risen_on : (a n b m c : ℕ) → HasRisen a n b → HasRisen b m c → HasRisen a (n + m) c
risen_on a n b m c (inl h) (inl k) = inl (omega (arith, h, k))
risen_on a n b m c (inl h) (inr k) = inr k
risen_on a n b m c (inr h) (inl k) = inr (omega (arith, h, k))
risen_on a n b m c (inr h) (inr k) = inr k
