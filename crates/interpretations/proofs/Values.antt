-- Values of terms: the constant and the coefficients give the value under every assignment.
use Rattle.std.proofs.Common.{◌≡◌, ℕ, zero, suc, ◌+◌, ◌*◌, ◌<◌, ◌≤◌, Bool, true, false, refl, ap, ap₂, ◌∙◌, arith, nat_eq, eqb-true, eq-eqb, if◌then◌else◌}
use Rattle.std.proofs.Math.Nat.{mul-le-mul_right}
use Rattle.general_lemmas.proofs.Numbers.{not_counted}
use Rattle.rewriting.proofs.Common.{Term, var, app, Terms, nil, cons, Substitution, apply, apply_all, Rule}
use Rattle.interpretations.specs.Linear.{Interpretation, number_of, constant, constant_from, coefficient, coefficient_from, Falls}

-- the value of a term where the variables have values
abbrev mutual
  pub value : Interpretation → (ℕ → ℕ) → Term → ℕ
  value es e (var x) = e x
  value es e (app f ts) = number_of es f 0 + value_from es e f 1 ts

  pub value_from : Interpretation → (ℕ → ℕ) → ℕ → ℕ → Terms → ℕ
  value_from es e f k nil = 0
  value_from es e f k (cons t ts) = number_of es f k * value es e t + value_from es e f (suc k) ts

-- the value of an instance is that under the values of the substitution
mutual
  pub constant-apply : (es : Interpretation) (s : Substitution) (t : Term) → constant es (apply s t) ≡ value es (λ x. constant es (s x)) t
  constant-apply es s (var x) = refl
  constant-apply es s (app f ts) = ap (λ n. number_of es f 0 + n) (constant_from-apply es s f 1 ts)

  constant_from-apply : (es : Interpretation) (s : Substitution) (f k : ℕ) (ts : Terms) → constant_from es f k (apply_all s ts) ≡ value_from es (λ x. constant es (s x)) f k ts
  constant_from-apply es s f k nil = refl
  constant_from-apply es s f k (cons t ts) = ap₂ (λ m n. number_of es f k * m + n) (constant-apply es s t) (constant_from-apply es s f (suc k) ts)

-- the sum of a x * e x over the variables below n
abbrev total : ℕ → (ℕ → ℕ) → (ℕ → ℕ) → ℕ
total zero a e = 0
total (suc n) a e = total n a e + a n * e n

total-none : (n : ℕ) (e : ℕ → ℕ) → total n (λ x. 0) e ≡ 0
total-none zero e = refl
total-none (suc n) e = let h = total-none n e in omega (arith, h)

total-sum : (n w : ℕ) (a b e : ℕ → ℕ) → total n (λ x. w * a x + b x) e ≡ w * total n a e + total n b e
total-sum zero w a b e = omega arith
total-sum (suc n) w a b e = let h = total-sum n w a b e in omega (arith, h)

total-mono : (n : ℕ) (a b e : ℕ → ℕ) → ((x : ℕ) → a x ≤ b x) → total n a e ≤ total n b e
total-mono zero a b e h = omega arith
total-mono (suc n) a b e h = let rest = total-mono n a b e h in (let here = mul-le-mul_right (e n) (h n) in omega (arith, rest, here))

-- the coefficients of the variable y alone
abbrev one : ℕ → ℕ → ℕ
one y x = if nat_eq x y then 1 else 0

one_same : (y : ℕ) → one y y ≡ 1
one_same y = rw (eq-eqb y y refl) refl

one_other : (x y : ℕ) → (x ≡ y → ⊥) → one y x ≡ 0
one_other x y k = not_counted x y k

total-below : (n y : ℕ) (e : ℕ → ℕ) → n ≤ y → total n (one y) e ≡ 0
total-below zero y e le = refl
total-below (suc n) y e le =
    let h = total-below n y e (omega (arith, le)) in
    let z : one y n ≡ 0 = one_other n y (λ q. omega (arith, le, q)) in
    rw (h, z) (omega arith)

total-one : (n y : ℕ) (e : ℕ → ℕ) → y < n → total n (one y) e ≡ e y
total-one zero y e lt = absurd (omega (arith, lt))
total-one (suc n) y e lt = go (nat_eq n y) refl (λ less. total-one n y e less)
  where
    go : (b : Bool) → nat_eq n y ≡ b → (y < n → total n (one y) e ≡ e y) → total n (one y) e + one y n * e n ≡ e y
    go true q below =
        let same : n ≡ y = eqb-true n y q in
        let none = total-below n y e (omega (arith, same)) in
        let here : one y n ≡ 1 = ap (one y) same ∙ one_same y in
        rw (none, here) (let z : 0 + 1 * e n ≡ e n = omega arith in z ∙ ap e same)
    go false q below =
        let differ : n ≡ y → ⊥ = (λ z. let t = eq-eqb n y z in cc) in
        let less : y < n = omega (arith, lt, differ) in
        let rest = below less in
        let here : one y n ≡ 0 = one_other n y differ in
        rw (rest, here) (omega arith)

-- the variables of a term are below this number
abbrev mutual
  pub above : Term → ℕ
  above (var x) = suc x
  above (app f ts) = above_all ts

  pub above_all : Terms → ℕ
  above_all nil = 0
  above_all (cons t ts) = above t + above_all ts

mutual
  value-linear : (es : Interpretation) (e : ℕ → ℕ) (n : ℕ) (t : Term) → above t ≤ n → value es e t ≡ constant es t + total n (λ x. coefficient es x t) e
  value-linear es e n (var y) le = let h = total-one n y e (omega (arith, le)) in omega (arith, h)
  value-linear es e n (app f ts) le = let h = value_from-linear es e f 1 n ts le in omega (arith, h)

  value_from-linear : (es : Interpretation) (e : ℕ → ℕ) (f k n : ℕ) (ts : Terms) → above_all ts ≤ n → value_from es e f k ts ≡ constant_from es f k ts + total n (λ x. coefficient_from es x f k ts) e
  value_from-linear es e f k n nil le = let h = total-none n e in omega (arith, h)
  value_from-linear es e f k n (cons t ts) le =
      let h = value-linear es e n t (omega (arith, le)) in
      let r = value_from-linear es e f (suc k) n ts (omega (arith, le)) in
      let s = total-sum n (number_of es f k) (λ x. coefficient es x t) (λ x. coefficient_from es x f (suc k) ts) e in
      rw (h, r) (omega (arith, s))

-- where the coefficients are kept and the constant falls, the value falls under every assignment
pub value-falls : (es : Interpretation) (r : Rule) → Falls es r → (e : ℕ → ℕ) → value es e r.right < value es e r.left
value-falls es r h e =
    let n : ℕ = above r.left + above r.right in
    let left = value-linear es e n r.left (omega arith) in
    let right = value-linear es e n r.right (omega arith) in
    let most = total-mono n (λ x. coefficient es x r.right) (λ x. coefficient es x r.left) e h.coefficients in
    let less = h.constants in
    omega (arith, left, right, most, less)
