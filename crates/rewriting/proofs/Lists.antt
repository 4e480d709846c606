-- Lists: what is on them, lists in order, and lists that begin with another.
use Rattle.std.proofs.Common.{◌≡◌, ◌⊎◌, inl, inr, ℕ, zero, suc, ◌+◌, ◌<◌, ◌≤◌, List, [], ◌∷◌, ◌++◌, length, get_or, map, refl, sym, ap, ap₂, ◌∙◌, subst, append_assoc, append-nil, length-append, arith}
use Rattle.std.proofs.lemmas.List.{get_or_append_left}
use Rattle.rewriting.specs.Lists.{IsAmong, AreDistinct, IsBeforeAll, IsSorted, IsFront}
use Rattle.rewriting.specs.Systems.{CountsFrom}

pub among_left : {X : Type 0} (x : X) (xs ys : List X) → IsAmong x xs → IsAmong x (xs ++ ys)
among_left x [] ys h = absurd h
among_left x (z ∷ xs) ys (inl e) = inl e
among_left x (z ∷ xs) ys (inr h) = inr (among_left x xs ys h)

pub among_right : {X : Type 0} (x : X) (xs ys : List X) → IsAmong x ys → IsAmong x (xs ++ ys)
among_right x [] ys h = h
among_right x (z ∷ xs) ys h = inr (among_right x xs ys h)

among_cases : {X : Type 0} (x z : X) (xs ys : List X) → IsAmong x xs ⊎ IsAmong x ys → IsAmong x (z ∷ xs) ⊎ IsAmong x ys
among_cases x z xs ys (inl h) = inl (inr h)
among_cases x z xs ys (inr h) = inr h

pub among_either : {X : Type 0} (x : X) (xs ys : List X) → IsAmong x (xs ++ ys) → IsAmong x xs ⊎ IsAmong x ys
among_either x [] ys h = inr h
among_either x (z ∷ xs) ys (inl e) = inl (inl e)
among_either x (z ∷ xs) ys (inr h) = among_cases x z xs ys (among_either x xs ys h)

pub among_middle : {X : Type 0} (x : X) (xs ys : List X) → IsAmong x (xs ++ x ∷ ys)
among_middle x [] ys = inl refl
among_middle x (z ∷ xs) ys = inr (among_middle x xs ys)

pub among_map : {X Y : Type 0} (f : X → Y) (x : X) (xs : List X) → IsAmong x xs → IsAmong (f x) (map f xs)
among_map f x [] h = absurd h
among_map f x (z ∷ xs) (inl e) = inl (ap f e)
among_map f x (z ∷ xs) (inr h) = inr (among_map f x xs h)

pub among_of_map : {X Y : Type 0} (f : X → Y) (y : Y) (xs : List X) → IsAmong y (map f xs) → (x : X) × IsAmong x xs × (y ≡ f x)
among_of_map f y [] h = absurd h
among_of_map f y (z ∷ xs) (inl e) = (z, inl refl, e)
among_of_map f y (z ∷ xs) (inr h) = let k = among_of_map f y xs h in (k.0, inr k.1, k.2)

-- numbers that count on from n are below n and their number together
pub counted_below : (n : ℕ) (xs : List ℕ) (x : ℕ) → CountsFrom n xs → IsAmong x xs → x < n + length xs
counted_below n [] x h m = absurd m
counted_below n (y ∷ ys) x h (inl e) = let k = h.0 in omega (arith, k, e)
counted_below n (y ∷ ys) x h (inr m) = let k = counted_below (suc n) ys x h.1 m in omega (arith, k)

pub distinct_last : {X : Type 0} (xs : List X) (y : X) → AreDistinct xs → (IsAmong y xs → ⊥) → AreDistinct (xs ++ y ∷ [])
distinct_last [] y h k = ((λ a. a), tt)
distinct_last {X} (x ∷ xs) y (h, hs) k = ((λ a. fresh (among_either x xs (y ∷ []) a)), distinct_last xs y hs (λ a. k (inr a)))
  where
    fresh : IsAmong x xs ⊎ IsAmong x (y ∷ []) → ⊥
    fresh (inl b) = h b
    fresh (inr (inl e)) = k (inl (sym e))
    fresh (inr (inr b)) = b

pub distinct_middle : {X : Type 0} (x : X) (xs ys : List X) → AreDistinct (xs ++ x ∷ ys) → IsAmong x xs → ⊥
distinct_middle x [] ys d a = a
distinct_middle x (z ∷ xs) ys d (inl e) = d.0 (subst (λ q. IsAmong q (xs ++ x ∷ ys)) e (among_middle x xs ys))
distinct_middle x (z ∷ xs) ys d (inr a) = distinct_middle x xs ys d.1 a

pub among_at : {X : Type 0} (xs : List X) (i : ℕ) (d x : X) → i < length xs → x ≡ get_or xs i d → IsAmong x xs
among_at [] i d x l e = absurd (omega (arith, l))
among_at (y ∷ xs) zero d x l e = inl e
among_at (y ∷ xs) (suc i) d x l e = inr (among_at xs i d x (omega (arith, l)) e)

-- in a distinct list no number stands at two places
pub distinct_at : (xs : List ℕ) → AreDistinct xs → (i j : ℕ) → i < length xs → j < length xs → get_or xs i 0 ≡ get_or xs j 0 → i ≡ j
distinct_at [] d i j k l e = absurd (omega (arith, k))
distinct_at (x ∷ xs) d zero zero k l e = refl
distinct_at (x ∷ xs) d zero (suc j) k l e = absurd (d.0 (among_at xs j 0 x (omega (arith, l)) e))
distinct_at (x ∷ xs) d (suc i) zero k l e = absurd (d.0 (among_at xs i 0 x (omega (arith, k)) (sym e)))
distinct_at (x ∷ xs) d (suc i) (suc j) k l e = ap suc (distinct_at xs d.1 i j (omega (arith, k)) (omega (arith, l)) e)

pub before_each : {X : Type 0} (order : X → X → Type 0) (x : X) (xs : List X) → ((y : X) → IsAmong y xs → order x y) → IsBeforeAll order x xs
before_each order x [] h = tt
before_each order x (z ∷ xs) h = (h z (inl refl), before_each order x xs (λ y a. h y (inr a)))

pub before_one : {X : Type 0} (order : X → X → Type 0) (x y : X) (xs : List X) → IsBeforeAll order x xs → IsAmong y xs → order x y
before_one order x y [] all a = absurd a
before_one order x y (z ∷ xs) (h, all) (inl e) = subst (order x) (sym e) h
before_one order x y (z ∷ xs) (h, all) (inr a) = before_one order x y xs all a

-- two sorted lists, all of the one before all of the other
pub sorted_append : {X : Type 0} (order : X → X → Type 0) (xs ys : List X) → IsSorted order xs → IsSorted order ys → ((x y : X) → IsAmong x xs → IsAmong y ys → order x y) → IsSorted order (xs ++ ys)
sorted_append order [] ys s t h = t
sorted_append {X} order (x ∷ xs) ys (first, s) t h =
    (before_each order x (xs ++ ys) (λ y a. before y (among_either y xs ys a)), sorted_append order xs ys s t (λ u v a b. h u v (inr a) b))
  where
    before : (y : X) → IsAmong y xs ⊎ IsAmong y ys → order x y
    before y (inl a) = before_one order x y xs first a
    before y (inr a) = h x y (inl refl) a

-- the parts of a sorted list
pub sorted_left : {X : Type 0} (order : X → X → Type 0) (xs ys : List X) → IsSorted order (xs ++ ys) → IsSorted order xs
sorted_left order [] ys s = tt
sorted_left order (x ∷ xs) ys (first, s) = (before_each order x xs (λ y a. before_one order x y (xs ++ ys) first (among_left y xs ys a)), sorted_left order xs ys s)

pub sorted_right : {X : Type 0} (order : X → X → Type 0) (xs ys : List X) → IsSorted order (xs ++ ys) → IsSorted order ys
sorted_right order [] ys s = s
sorted_right order (x ∷ xs) ys s = sorted_right order xs ys s.1

pub sorted_across : {X : Type 0} (order : X → X → Type 0) (xs ys : List X) → IsSorted order (xs ++ ys) → (x y : X) → IsAmong x xs → IsAmong y ys → order x y
sorted_across order [] ys s x y a b = absurd a
sorted_across order (z ∷ xs) ys (first, s) x y (inl e) b = subst (λ q. order q y) (sym e) (before_one order z y (xs ++ ys) first (among_right y xs ys b))
sorted_across order (z ∷ xs) ys (first, s) x y (inr a) b = sorted_across order xs ys s x y a b

-- a map that keeps the order keeps lists sorted
pub sorted_map : {X Y : Type 0} (order : X → X → Type 0) (other : Y → Y → Type 0) (f : X → Y) (xs : List X) → ((x y : X) → order x y → other (f x) (f y))
    → IsSorted order xs → IsSorted other (map f xs)
sorted_map order other f [] h s = tt
sorted_map {X} {Y} order other f (x ∷ xs) h (first, s) =
    (before_each other (f x) (map f xs) (λ y a. before y (among_of_map f y xs a)), sorted_map order other f xs h s)
  where
    before : (y : Y) → (z : X) × IsAmong z xs × (y ≡ f z) → other (f x) y
    before y (z, a, e) = subst (other (f x)) (sym e) (h x z (before_one order x z xs first a))

-- in an order that never holds both ways, two sorted lists of which each has what the other has are equal
module _ {X : Type 0} (order : X → X → Type 0) (once : (x y : X) → order x y → order y x → ⊥) where
  same_head : (x y : X) (xs ys : List X) → IsBeforeAll order x xs → IsBeforeAll order y ys → (x ≡ y) ⊎ IsAmong x ys → (y ≡ x) ⊎ IsAmong y xs → x ≡ y
  same_head x y xs ys low high (inl e) a = e
  same_head x y xs ys low high (inr a) (inl e) = sym e
  same_head x y xs ys low high (inr a) (inr b) = absurd (once x y (before_one order x y xs low b) (before_one order y x ys high a))

  same_tail : (x y : X) (xs ys : List X) → x ≡ y → IsBeforeAll order x xs → ((z : X) → IsAmong z (x ∷ xs) → IsAmong z (y ∷ ys)) → (z : X) → IsAmong z xs → IsAmong z ys
  same_tail x y xs ys e low part z a = go (part z (inr a))
    where
      go : (z ≡ y) ⊎ IsAmong z ys → IsAmong z ys
      go (inl is) = absurd (let h = subst (λ q. order q z) (e ∙ sym is) (before_one order x z xs low a) in once z z h h)
      go (inr b) = b

  pub sorted_once : (xs ys : List X) → IsSorted order xs → IsSorted order ys → ((z : X) → IsAmong z xs → IsAmong z ys) → ((z : X) → IsAmong z ys → IsAmong z xs) → xs ≡ ys
  sorted_once [] [] s t to from = refl
  sorted_once [] (y ∷ ys) s t to from = absurd (from y (inl refl))
  sorted_once (x ∷ xs) [] s t to from = absurd (to x (inl refl))
  sorted_once (x ∷ xs) (y ∷ ys) (low, s) (high, t) to from =
      let e = same_head x y xs ys low high (to x (inl refl)) (from y (inl refl)) in
      ap₂ (λ (z : X) (zs : List X). z ∷ zs) e
      (sorted_once xs ys s t (same_tail x y xs ys e low to) (same_tail y x ys xs (sym e) high from))

pub front_refl : {X : Type 0} (xs : List X) → IsFront xs xs
front_refl xs = ([], sym (append-nil xs))

pub front_trans : {X : Type 0} (xs ys zs : List X) → IsFront xs ys → IsFront ys zs → IsFront xs zs
front_trans {X} xs ys zs (a, e) (b, d) = (a ++ b, d ∙ ap (λ (ws : List X). ws ++ b) e ∙ append_assoc xs a b)

pub front_length : {X : Type 0} (xs ys : List X) → IsFront xs ys → length xs ≤ length ys
front_length xs ys (a, e) = omega (arith, ap length e, length-append xs a)

-- a place of the front has the same in the longer list
pub front_at : {X : Type 0} (xs ys : List X) (d : X) (i : ℕ) → IsFront xs ys → i < length xs → get_or ys i d ≡ get_or xs i d
front_at {X} xs ys d i (a, e) h = ap (λ (ws : List X). get_or ws i d) e ∙ get_or_append_left xs a d i h
