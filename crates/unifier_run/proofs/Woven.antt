-- Renaming the second of two terms whose variables are kept apart as even and odd: even variables stay, odd ones are renamed.
use Rattle.std.proofs.Common.{ℕ, ◌≡◌, ◌≢◌, ◌+◌, ◌*◌, ◌/◌, ◌%◌, Bool, true, false, nat_eq, if◌then◌else◌, refl, sym, ap, ap₂, ◌∙◌, arith, eqb-true, eq-eqb}
use Rattle.std.proofs.lemmas.Bool.{false≢true}
use Rattle.rewriting.specs.Prelude.{Term, Terms, var, app, nil, cons, apply, apply_all, even, odd}
use Rattle.unifier_run.proofs.Renamed.{names}

module _ (rho : ℕ → ℕ) where
  abbrev pub woven : ℕ → ℕ
  woven n = if nat_eq (n % 2) 0 then n else 2 * rho (n / 2) + 1

  woven_even : (k : ℕ) → woven (2 * k) ≡ 2 * k
  woven_even k = let e : 2 * k % 2 ≡ 0 = omega arith in let t : nat_eq (2 * k % 2) 0 ≡ true = eq-eqb (2 * k % 2) 0 e in rw t refl

  odd_test : (k : ℕ) → nat_eq ((2 * k + 1) % 2) 0 ≡ false
  odd_test k = go (nat_eq ((2 * k + 1) % 2) 0) refl
    where
      go : (c : Bool) → nat_eq ((2 * k + 1) % 2) 0 ≡ c → nat_eq ((2 * k + 1) % 2) 0 ≡ false
      go true e = absurd (let h = eqb-true ((2 * k + 1) % 2) 0 e in let one : (2 * k + 1) % 2 ≡ 1 = omega arith in omega (arith, h, one))
      go false e = e

  woven_odd : (k : ℕ) → woven (2 * k + 1) ≡ 2 * rho k + 1
  woven_odd k = let half : (2 * k + 1) / 2 ≡ k = omega arith in rw (odd_test k, half) refl

  mutual
    pub woven_evens : (t : Term) → apply (names woven) (apply even t) ≡ apply even t
    woven_evens (var x) = ap var (woven_even x)
    woven_evens (app f ts) = ap (app f) (all_woven_evens ts)

    pub all_woven_evens : (ts : Terms) → apply_all (names woven) (apply_all even ts) ≡ apply_all even ts
    all_woven_evens nil = refl
    all_woven_evens (cons t ts) = ap₂ cons (woven_evens t) (all_woven_evens ts)

  mutual
    pub woven_odds : (t : Term) → apply (names woven) (apply odd t) ≡ apply odd (apply (names rho) t)
    woven_odds (var x) = ap var (woven_odd x)
    woven_odds (app f ts) = ap (app f) (all_woven_odds ts)

    pub all_woven_odds : (ts : Terms) → apply_all (names woven) (apply_all odd ts) ≡ apply_all odd (apply_all (names rho) ts)
    all_woven_odds nil = refl
    all_woven_odds (cons t ts) = ap₂ cons (woven_odds t) (all_woven_odds ts)

  is_odd : (n : ℕ) → nat_eq (n % 2) 0 ≡ false → n ≡ 2 * (n / 2) + 1
  is_odd n e = let some : n % 2 ≢ 0 = λ z. false≢true (sym e ∙ eq-eqb (n % 2) 0 z) in omega (arith, some)

  pub woven_one_to_one : ((x y : ℕ) → rho x ≡ rho y → x ≡ y) → (x y : ℕ) → woven x ≡ woven y → x ≡ y
  woven_one_to_one one x y e = go (nat_eq (x % 2) 0) refl (nat_eq (y % 2) 0) refl
    where
      go : (a : Bool) → nat_eq (x % 2) 0 ≡ a → (b : Bool) → nat_eq (y % 2) 0 ≡ b → x ≡ y
      go true p true q = (let s : x ≡ y = rw (p, q) at e in s)
      go true p false q = absurd (let s : x ≡ 2 * rho (y / 2) + 1 = rw (p, q) at e in let h = eqb-true (x % 2) 0 p in omega (arith, s, h))
      go false p true q = absurd (let s : 2 * rho (x / 2) + 1 ≡ y = rw (p, q) at e in let h = eqb-true (y % 2) 0 q in omega (arith, s, h))
      go false p false q =
          (let s : 2 * rho (x / 2) + 1 ≡ 2 * rho (y / 2) + 1 = rw (p, q) at e in
          let same = one (x / 2) (y / 2) (omega (arith, s)) in
          let first = is_odd x p in
          let second = is_odd y q in
          first ∙ (ap (λ z. 2 * z + 1) same ∙ sym second))
