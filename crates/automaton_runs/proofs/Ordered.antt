-- Lists of pairs in order.
use Rattle.std.proofs.Common.{◌≡◌, ℕ, zero, suc, ◌<◌, List, [], ◌∷◌, ◌++◌, length, get_or, refl, subst, arith, inl, inr, ⊎_elim}
use Rattle.std.specs.List.{AllPairs}
use Rattle.rewriting.specs.Lists.{IsAmong}
use Rattle.rewriting.proofs.Lists.{among_either}
use Rattle.rewriting.proofs.Members.{among_contained, contained_among}

-- each item stands in the relation to all later ones
abbrev pub IsOrdered : {X : Type 0} → (X → X → Type 0) → List X → Type 0
IsOrdered R [] = Unit {0}
IsOrdered {X} R (x ∷ xs) = ((y : X) → IsAmong y xs → R x y) × IsOrdered R xs

pub ordered_append : {X : Type 0} (R : X → X → Type 0) (xs ys : List X) → IsOrdered R xs → IsOrdered R ys → ((x y : X) → IsAmong x xs → IsAmong y ys → R x y) → IsOrdered R (xs ++ ys)
ordered_append R [] ys a b h = b
ordered_append R (x ∷ xs) ys a b h = (λ y i. ⊎_elim (λ k. a.0 y k) (λ k. h x y (inl refl) k) (among_either y xs ys i), ordered_append R xs ys a.1 b (λ u v i j. h u v (inr i) j))

-- pairs by places and pairs by members
pub ordered_from_pairs : {X : Type 0} (R : X → X → Type 0) (xs : List X) → AllPairs R xs → IsOrdered R xs
ordered_from_pairs R [] h = tt
ordered_from_pairs {X = X} R (x ∷ xs) h = (
  λ y k.
      let c = contained_among y xs k in
      let place : suc c.0 < length (x ∷ xs) = let low = c.1 in omega arith in
      subst (λ (z : X). R x z) c.2 (h 0 (suc c.0) y (omega arith) place),
  ordered_from_pairs R xs (λ i j d l k. h (suc i) (suc j) d (omega arith) (omega arith)),
)

pub pairs_from_ordered : {X : Type 0} (R : X → X → Type 0) (xs : List X) → IsOrdered R xs → AllPairs R xs
pairs_from_ordered R [] o i j d l h = absurd (omega arith)
pairs_from_ordered R (x ∷ xs) o zero zero d l h = absurd (omega arith)
pairs_from_ordered R (x ∷ xs) o zero (suc j) d l h = o.0 (get_or xs j d) (among_contained (get_or xs j d) xs (j, omega arith, at xs j d (omega arith)))
  where
    at : {Y : Type 0} (ys : List Y) (m : ℕ) (e : Y) → m < length ys → get_or ys m (get_or ys m e) ≡ get_or ys m e
    at [] m e k = refl
    at (y ∷ ys) zero e k = refl
    at (y ∷ ys) (suc m) e k = at ys m e (omega arith)
pairs_from_ordered R (x ∷ xs) o (suc i) zero d l h = absurd (omega arith)
pairs_from_ordered R (x ∷ xs) o (suc i) (suc j) d l h = pairs_from_ordered R xs o.1 i j d (omega arith) (omega arith)
