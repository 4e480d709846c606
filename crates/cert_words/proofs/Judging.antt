-- What words must meet, one demand behind another, and the numbers that digits spell.
use Rattle.cert_words.proofs.Prelude.{◌≡◌, ◌+◌, ◌*◌, ◌-◌, ◌<◌, ◌≤◌, ℕ, suc, List, [], ◌∷◌, length, drop, get_or, refl, arith, drop-cons, largest, value_from, value}

-- the number that the digits before this place spell, which is not too great
pub record ValueOn (digits : List ℕ) (at n : ℕ) : Type 0 where
  pub value : value_from n (drop at digits) ≡ value digits
  pub small : n ≤ largest

-- more digits spell no smaller number
pub grows : (digits : List ℕ) (n : ℕ) → n ≤ value_from n digits
grows [] n = omega arith
grows (b ∷ bs) n = let h = grows bs (10 * n + (b - 48)) in omega (arith, h)

pub value_starts : (digits : List ℕ) → ValueOn digits 0 0
value_starts digits = record { value = refl; small = omega arith }

pub value_passes : (digits : List ℕ) (at n : ℕ) → ValueOn digits at n → at < length digits → largest < 10 * n + (get_or digits at 0 - 48) → largest < value digits
value_passes digits at n v h gt =
    let all : value_from (10 * n + (get_or digits at 0 - 48)) (drop (suc at) digits) ≡ value digits = rw (drop-cons digits at 0 h) at v.value in
    omega (arith, all, grows (drop (suc at) digits) (10 * n + (get_or digits at 0 - 48)))
