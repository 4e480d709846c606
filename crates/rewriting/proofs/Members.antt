-- Members of lists: on the lists for each member, at their places, at one place, at the end.
use Rattle.std.proofs.Common.{◌≡◌, ◌⊎◌, inl, inr, ℕ, zero, suc, ◌<◌, List, [], ◌∷◌, ◌++◌, flat_map, length, Some, slice_get, refl, sym, ap, ◌∙◌, subst, arith, Contains}
use Rattle.rewriting.specs.Lists.{IsAmong, AreDistinct, IsSorted}
use Rattle.rewriting.proofs.Lists.{among_left, among_right, among_either, sorted_append, before_one}

-- what is on the lists for the members of another list
pub flat_among : {X Y : Type 0} (f : X → List Y) (x : X) (y : Y) (xs : List X) → IsAmong x xs → IsAmong y (f x) → IsAmong y (flat_map f xs)
flat_among f x y [] i j = absurd i
flat_among f x y (z ∷ xs) (inl e) j = among_left y (f z) (flat_map f xs) (subst (λ w. IsAmong y (f w)) e j)
flat_among f x y (z ∷ xs) (inr i) j = among_right y (f z) (flat_map f xs) (flat_among f x y xs i j)

pub of_flat : {X Y : Type 0} (f : X → List Y) (y : Y) (xs : List X) → IsAmong y (flat_map f xs) → (x : X) × IsAmong x xs × IsAmong y (f x)
of_flat f y [] i = absurd i
of_flat {X = X} f y (z ∷ xs) i = go (among_either y (f z) (flat_map f xs) i) (λ h. of_flat f y xs h)
  where
    go : IsAmong y (f z) ⊎ IsAmong y (flat_map f xs) → (IsAmong y (flat_map f xs) → (x : X) × IsAmong x xs × IsAmong y (f x)) → (x : X) × IsAmong x (z ∷ xs) × IsAmong y (f x)
    go (inl h) rest = (z, inl refl, h)
    go (inr h) rest = let r = rest h in (r.0, inr r.1, r.2)

-- these lists put end to end are in order, where each is, and what comes from an earlier item is earlier
pub sorted_flat : {X Y : Type 0} (f : X → List Y) (order : X → X → Type 0) (other : Y → Y → Type 0) → ((x y : X) → order x y → (a b : Y) → IsAmong a (f x) → IsAmong b (f y) → other a b)
    → (xs : List X) → ((x : X) → IsAmong x xs → IsSorted other (f x)) → IsSorted order xs → IsSorted other (flat_map f xs)
sorted_flat f order other across [] each h = tt
sorted_flat f order other across (x ∷ xs) each (h, hs) =
    sorted_append other (f x) (flat_map f xs) (each x (inl refl)) (sorted_flat f order other across xs (λ y l. each y (inr l)) hs)
    (λ a b k l. let y = of_flat f b xs l in across x y.0 (before_one order x y.0 xs h y.1) a b k y.2)

-- the places of members
pub place_among : {X : Type 0} (xs : List X) (i : ℕ) (x : X) → slice_get xs i ≡ Some x → IsAmong x xs
place_among [] i x e = absurd (cc)
place_among (y ∷ xs) zero x e = inl (cc)
place_among (y ∷ xs) (suc i) x e = inr (place_among xs i x e)

pub among_place : {X : Type 0} (x : X) (xs : List X) → IsAmong x xs → (i : ℕ) × (slice_get xs i ≡ Some x)
among_place x [] h = absurd h
among_place x (y ∷ xs) (inl e) = (0, ap Some (sym e))
among_place x (y ∷ xs) (inr h) = let r = among_place x xs h in (suc r.0, r.1)

pub at_place : {X : Type 0} (xs : List X) (i : ℕ) → i < length xs → (x : X) × (slice_get xs i ≡ Some x)
at_place [] i less = absurd (omega (arith, less))
at_place (x ∷ xs) zero less = (x, refl)
at_place (x ∷ xs) (suc i) less = at_place xs i (omega (arith, less))

-- of distinct members each has one place
pub one_of_places : {X : Type 0} (xs : List X) → AreDistinct xs → (i j : ℕ) (x : X) → i < j → slice_get xs i ≡ Some x → slice_get xs j ≡ Some x → ⊥
one_of_places [] d i j x less a b = cc
one_of_places (y ∷ xs) d i zero x less a b = omega (arith, less)
one_of_places (y ∷ xs) (new, d) zero (suc j) x less a b = new (place_among xs j y (let same : y ≡ x = cc in b ∙ ap Some (sym same)))
one_of_places (y ∷ xs) (new, d) (suc i) (suc j) x less a b = one_of_places xs d i j x (omega (arith, less)) a b

pub distinct_append : {X : Type 0} (xs ys : List X) → AreDistinct xs → AreDistinct ys → ((z : X) → IsAmong z xs → IsAmong z ys → ⊥) → AreDistinct (xs ++ ys)
distinct_append [] ys d e apart = e
distinct_append {X = X} (x ∷ xs) ys (new, d) e apart = ((λ i. go (among_either x xs ys i)), distinct_append xs ys d e (λ z i j. apart z (inr i) j))
  where
    go : IsAmong x xs ⊎ IsAmong x ys → ⊥
    go (inl i) = new i
    go (inr j) = apart x (inl refl) j

-- std's word for members
pub contained_among : {X : Type 0} (x : X) (xs : List X) → IsAmong x xs → Contains xs x
contained_among x [] h = absurd h
contained_among x (y ∷ ys) (inl e) = (0, omega arith, sym e)
contained_among x (y ∷ ys) (inr h) = let c = contained_among x ys h in let low = c.1 in (suc c.0, omega arith, c.2)

pub among_contained : {X : Type 0} (x : X) (xs : List X) → Contains xs x → IsAmong x xs
among_contained x [] (k, h, e) = absurd (omega arith)
among_contained x (y ∷ ys) (zero, h, e) = inl (sym e)
among_contained x (y ∷ ys) (suc k, h, e) = inr (among_contained x ys (k, omega arith, e))

-- a list without members
pub none_among : {X : Type 0} (xs : List X) → ((x : X) → IsAmong x xs → ⊥) → xs ≡ []
none_among [] h = refl
none_among (x ∷ xs) h = absurd (h x (inl refl))
