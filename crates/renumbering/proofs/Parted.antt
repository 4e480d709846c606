-- Functions that take the numbers below one and those from it on apart.
use Rattle.std.proofs.Common.{ℕ, ◌≡◌, ◌+◌, ◌-◌, ◌<◌, ◌≤◌, Bool, true, false, nat_lt, if◌then◌else◌, refl, sym, ap, ◌∙◌, arith}
use Rattle.std.proofs.lemmas.Bool.{ltb-true, ltb-false, lt-ltb, le-ltb}

abbrev pub parted : ℕ → (ℕ → ℕ) → (ℕ → ℕ) → ℕ → ℕ
parted n low high k = if nat_lt k n then low k else high (k - n)

module _ (n : ℕ) (low high : ℕ → ℕ) where
  pub parted_below : (k : ℕ) → k < n → parted n low high k ≡ low k
  parted_below k h = let t : nat_lt k n ≡ true = lt-ltb k n h in rw t refl

  pub parted_from : (k : ℕ) → n ≤ k → parted n low high k ≡ high (k - n)
  parted_from k h = let t : nat_lt k n ≡ false = le-ltb k n h in rw t refl

  pub parted_past : (m : ℕ) → parted n low high (n + m) ≡ high m
  parted_past m = let d : n + m - n ≡ m = omega arith in parted_from (n + m) (omega arith) ∙ ap high d

  -- one to one where both parts are, and have no value in common
  pub parted_one : ((x y : ℕ) → x < n → y < n → low x ≡ low y → x ≡ y) → ((x y : ℕ) → high x ≡ high y → x ≡ y) → ((x y : ℕ) → x < n → low x ≡ high y → ⊥)
      → (x y : ℕ) → parted n low high x ≡ parted n low high y → x ≡ y
  parted_one lows highs apart x y e = go (nat_lt x n) refl (nat_lt y n) refl
    where
      go : (a : Bool) → nat_lt x n ≡ a → (b : Bool) → nat_lt y n ≡ b → x ≡ y
      go true p true q = (let s : low x ≡ low y = rw (p, q) at e in lows x y (ltb-true x n p) (ltb-true y n q) s)
      go true p false q = (let s : low x ≡ high (y - n) = rw (p, q) at e in absurd (apart x (y - n) (ltb-true x n p) s))
      go false p true q = (let s : high (x - n) ≡ low y = rw (p, q) at e in absurd (apart y (x - n) (ltb-true y n q) (sym s)))
      go false p false q =
          (let s : high (x - n) ≡ high (y - n) = rw (p, q) at e in
          let same = highs (x - n) (y - n) s in
          let l = ltb-false x n p in
          let m = ltb-false y n q in
          omega (arith, same, l, m))
