-- The elements of lists by their places.
use Rattle.std.proofs.Common.{◌≡◌, ℕ, zero, suc, ◌+◌, ◌<◌, ◌⊎◌, inl, inr, ⊎_elim, Bool, true, false, ◌||◌, nat_eq, Vec, Global, List, [], ◌∷◌, length, map, get_or, take, Some}
use Rattle.std.proofs.Common.{slice_get, refl, ap, sym, subst, arith, eqb-true, eq-eqb}
use Rattle.std.specs.List.{list_any}
use Rattle.std.proofs.lemmas.Option.{same_Some}
use Rattle.general_lemmas.proofs.Places.{take_read}
use Rattle.rewriting.specs.Lists.{IsAmong}
use Rattle.rewriting.proofs.Lists.{among_either}
use Rattle.automaton_runs.specs.Choices.{as_lists}

-- the first of some lists
pub first_of : (vs : List (Vec ℕ Global)) (v : Vec ℕ Global) → slice_get vs 0 ≡ Some v → slice_get (as_lists vs) 0 ≡ Some v.items
first_of [] v e = absurd (cc)
first_of (w ∷ vs) v e = ap (λ (u : Vec ℕ Global). Some u.items) (same_Some w v e)

-- the front of a list up to a place, and the element there
pub in_front : {X : Type 0} (xs : List X) (i : ℕ) (x u : X) → i < length xs → x ≡ get_or xs i x → IsAmong u (take (i + 1) xs) → IsAmong u (take i xs) ⊎ (u ≡ x)
in_front xs i x u h e k =
    ⊎_elim inl (λ f. inr (⊎_elim (λ same. same) (λ none. absurd none) f)) (among_either u (take i xs) (x ∷ []) (subst (IsAmong u) (take_read xs i x h e) k))

-- the place of one of the first n
pub place_in_front : {X Y : Type 0} (f : X → Y) (xs : List X) (n : ℕ) (y : Y) → IsAmong y (map f (take n xs)) → (k : ℕ) × (k < n) × (slice_get (map f xs) k ≡ Some y)
place_in_front f [] zero y h = absurd h
place_in_front f [] (suc n) y h = absurd h
place_in_front f (x ∷ xs) zero y h = absurd h
place_in_front f (x ∷ xs) (suc n) y (inl e) = (0, omega arith, ap (λ z. Some z) (sym e))
place_in_front f (x ∷ xs) (suc n) y (inr h) =
    let k = place_in_front f xs n y h in
    let low = k.1 in (suc k.0, omega arith, k.2)

-- a search for a number
pub among_of_any : (x : ℕ) (ys : List ℕ) → list_any (λ y. nat_eq y x) ys ≡ true → IsAmong x ys
among_of_any x [] h = absurd (cc)
among_of_any x (y ∷ ys) h = go (nat_eq y x) refl h (among_of_any x ys)
  where
    go : (b : Bool) → nat_eq y x ≡ b → (b || list_any (λ z. nat_eq z x) ys) ≡ true → (list_any (λ z. nat_eq z x) ys ≡ true → IsAmong x ys) → IsAmong x (y ∷ ys)
    go true e h rest = inl (sym (eqb-true y x e))
    go false e h rest = inr (rest h)

pub any_of_among : (x : ℕ) (ys : List ℕ) → IsAmong x ys → list_any (λ y. nat_eq y x) ys ≡ true
any_of_among x [] h = absurd h
any_of_among x (y ∷ ys) (inl e) = rw (eq-eqb y x (sym e)) refl
any_of_among x (y ∷ ys) (inr h) = go (nat_eq y x) (any_of_among x ys h)
  where
    go : (b : Bool) → list_any (λ z. nat_eq z x) ys ≡ true → (b || list_any (λ z. nat_eq z x) ys) ≡ true
    go true rest = refl
    go false rest = rest
