-- How many choices there are.
use Rattle.std.proofs.Common.{◌≡◌, ℕ, zero, suc, ◌+◌, ◌*◌, ◌^◌, ◌<◌, ◌≤◌, ap, sym, ◌∙◌, add-one, arith}
use Rattle.std.proofs.Math.Nat.{pow-suc, pow-le-pow_right}

pub power_more : (c n i : ℕ) → c ≡ n ^ i → c * n ≡ n ^ (i + 1)
power_more c n i e = ap (λ (p : ℕ). p * n) e ∙ sym (rw add-one (pow-suc n i))

-- with more choices for some occurrences there are more for all
pub more_at_last : (c n i k l : ℕ) → c ≡ n ^ i → i < k → 1 ≤ l → l < c * n → l < n ^ k
more_at_last c zero i k l e h one m = let none : c * 0 ≡ 0 = omega arith in absurd (omega arith)
more_at_last c (suc n) i k l e h one m =
    let here : c * suc n ≡ suc n ^ (i + 1) = power_more c (suc n) i e in
    let pos : 0 < suc n = omega arith in
    let up : suc n ^ (i + 1) ≤ suc n ^ k = pow-le-pow_right pos (let q : i + 1 ≤ k = omega arith in q) in
    omega arith
