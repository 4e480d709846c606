-- Lists side by side.
use Rattle.std.proofs.Common.{◌≡◌, ◌↔◌, ℕ, zero, suc, ◌+◌, ◌<◌, ◌≤◌, List, [], ◌∷◌, ◌++◌, length, get_or, take, drop, refl, ap, sym, subst, ◌∙◌, arith}
use Rattle.std.specs.List.{AllZip}
use Rattle.std.proofs.lemmas.List.{take_more, take_all}

pub zip_length : {X Y : Type 0} (R : X → Y → Type 0) (xs : List X) (ys : List Y) → AllZip R xs ys → length xs ≡ length ys
zip_length R [] [] z = refl
zip_length R [] (y ∷ ys) z = absurd z
zip_length R (x ∷ xs) [] z = absurd z
zip_length R (x ∷ xs) (y ∷ ys) z = ap suc (zip_length R xs ys z.1)

-- one more of each
step : {X Y : Type 0} (R : X → Y → Type 0) (xs : List X) (ys : List Y) (i : ℕ) (x : X) (y : Y) → i < length xs → i < length ys → x ≡ get_or xs i x → y ≡ get_or ys i y
    → AllZip R (take (suc i) xs) (take (suc i) ys) ↔ (AllZip R (take i xs) (take i ys) × R x y)
step R [] ys i x y h k e f = absurd (omega arith)
step R (u ∷ xs) [] i x y h k e f = absurd (omega arith)
step R (u ∷ xs) (v ∷ ys) zero x y h k e f = (λ z. (tt, subst (λ w. R x w) (sym f) (subst (λ w. R w v) (sym e) z.0)), λ z. (subst (λ w. R u w) f (subst (λ w. R w y) e z.1), tt))
step R (u ∷ xs) (v ∷ ys) (suc i) x y h k e f =
    let s = step R xs ys i x y (omega arith) (omega arith) e f in (λ z. let t = s.0 z.1 in ((z.0, t.0), t.1), λ z. (z.0.0, s.1 (z.0.1, z.1)))

pub zip_step : {X Y : Type 0} (R : X → Y → Type 0) (xs : List X) (ys : List Y) (i : ℕ) (x : X) (y : Y) → i < length xs → i < length ys → x ≡ get_or xs i x → y ≡ get_or ys i y
    → AllZip R (take (i + 1) xs) (take (i + 1) ys) ↔ (AllZip R (take i xs) (take i ys) × R x y)
zip_step R xs ys i x y h k e f =
    let one : suc i ≡ i + 1 = omega arith in subst (λ (n : ℕ). AllZip R (take n xs) (take n ys) ↔ (AllZip R (take i xs) (take i ys) × R x y)) one (step R xs ys i x y h k e f)

pub zip_all : {X Y : Type 0} (R : X → Y → Type 0) (xs : List X) (ys : List Y) (i : ℕ) → length xs ≤ i → length ys ≤ i → AllZip R (take i xs) (take i ys) ↔ AllZip R xs ys
zip_all {X = X} {Y = Y} R xs ys i h k =
    subst (λ (l : List X). AllZip R l (take i ys) ↔ AllZip R xs ys) (sym (take_all i xs h))
    (subst (λ (l : List Y). AllZip R xs l ↔ AllZip R xs ys) (sym (take_all i ys k)) (λ z. z, λ z. z))

pub zip_push : {X Y : Type 0} (R : X → Y → Type 0) (xs : List X) (ys : List Y) (x : X) (y : Y) → AllZip R xs ys → R x y → AllZip R (xs ++ x ∷ []) (ys ++ y ∷ [])
zip_push R [] [] x y z h = (h, tt)
zip_push R [] (d ∷ ys) x y z h = absurd z
zip_push R (u ∷ xs) [] x y z h = absurd z
zip_push R (u ∷ xs) (d ∷ ys) x y z h = (z.0, zip_push R xs ys x y z.1 h)

pub zip_more : {X Y : Type 0} (R : X → Y → Type 0) (xs : List X) (ys : List Y) (i : ℕ) (x : X) (y : Y) → i < length xs → x ≡ get_or xs i x → AllZip R (take i xs) ys → R x y
    → AllZip R (take (i + 1) xs) (ys ++ y ∷ [])
zip_more {X = X} R xs ys i x y inside is z h =
    subst (λ (l : List X). AllZip R l (ys ++ y ∷ [])) (sym (take_more xs i x inside ∙ ap (λ (u : X). take i xs ++ u ∷ []) (sym is))) (zip_push R (take i xs) ys x y z h)

pub zip_at : {X Y : Type 0} (R : X → Y → Type 0) (xs : List X) (ys : List Y) (i : ℕ) (x : X) (y : Y) → i < length xs → x ≡ get_or xs i x → y ≡ get_or ys i y → AllZip R xs ys → R x y
zip_at R [] ys i x y h e f z = absurd (omega arith)
zip_at R (u ∷ xs) [] i x y h e f z = absurd z
zip_at R (u ∷ xs) (v ∷ ys) zero x y h e f z = subst (λ w. R x w) (sym f) (subst (λ w. R w v) (sym e) z.0)
zip_at R (u ∷ xs) (v ∷ ys) (suc i) x y h e f z = zip_at R xs ys i x y (omega arith) e f z.1

-- a list by its first element
pub first_and_rest : {X : Type 0} (xs : List X) (x : X) → 1 ≤ length xs → x ≡ get_or xs 0 x → xs ≡ x ∷ drop 1 xs
first_and_rest [] x h e = absurd (omega arith)
first_and_rest (y ∷ ys) x h e = ap (λ z. z ∷ ys) (sym e)
