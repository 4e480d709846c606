-- The list of precedences has each precedence and nothing else, in order.
use Rattle.std.proofs.Common.{ℕ, suc, ◌≡◌, ◌+◌, ◌<◌, ◌⊎◌, inl, inr, List, [], ◌∷◌, Some, slice_get, length, refl, ap, ◌∙◌, subst, arith}
use Rattle.std.proofs.lemmas.Option.{slice_get_within}
use Rattle.rewriting.specs.Prelude.{IsAmong, AreDistinct, IsBeforeAll, IsSorted, System, Head, heads}
use Rattle.rewriting.proofs.Lists.{before_each}
use Rattle.rewriting.proofs.Members.{place_among, among_place, at_place, one_of_places}
use Rattle.path_orders.proofs.Heads.{heads_distinct}
use Rattle.path_orders.specs.Precedences.{Precedence, StandsAt, IsNewSymbol, IsMissing, IsPrecedence}
use Rattle.path_orders.proofs.Decided.{some_place}
use Rattle.precedence_walks.specs.Precedences.{HasLessNumber}
use Rattle.precedence_walks.specs.Laws.{AreAllPrecedences}
use Rattle.precedence_walks.proofs.Arrangements.{IsArranged, arranged, there, length_arrangements, arrangements_sorted}

-- a list without two equal places, and its places
from_places : {X : Type 0} (xs : List X) → ((i j : ℕ) (x : X) → i < j → slice_get xs i ≡ Some x → slice_get xs j ≡ Some x → ⊥) → AreDistinct xs
from_places [] h = tt
from_places (x ∷ xs) h = (
  (λ i. let at = among_place x xs i in h 0 (suc at.0) x (omega arith) refl at.1),
  from_places xs (λ i j y less a b. h (suc i) (suc j) y (omega (arith, less)) a b),
)

module _ (sys : System) (order : Precedence) where
  of_precedence : IsPrecedence sys order → IsArranged (heads sys) order
  of_precedence p = record { distinct = from_places order apart; from = from; all = all }
    where
      apart : (i j : ℕ) (h : Head) → i < j → slice_get order i ≡ Some h → slice_get order j ≡ Some h → ⊥
      apart i j h less a b =
          let new = p.entries j (slice_get_within order j h b) in
          let at = new.stands in
          new.is_new i less (at.0, at.1, (let same = at.2 in cc))

      from : (h : Head) → IsAmong h order → IsAmong h (heads sys)
      from h i =
          let place = among_place h order i in
          let new = p.entries place.0 (slice_get_within order place.0 h place.1) in
          let at = new.stands in
          let same : at.0 ≡ h = (let one = at.2 in let two = place.1 in cc) in place_among (heads sys) new.symbol h (at.1 ∙ ap Some same)

      all : (h : Head) → IsAmong h (heads sys) → IsAmong h order
      all h i = (let place = among_place h (heads sys) i in go place.0 place.1 (some_place sys order place.0))
        where
          go : (f : ℕ) → slice_get (heads sys) f ≡ Some h → ((k : ℕ) × StandsAt sys order f k) ⊎ ((k : ℕ) → StandsAt sys order f k → ⊥) → IsAmong h order
          go f is (inl (k, (g, at, there))) = let same : g ≡ h = cc in place_among order k h (there ∙ ap Some same)
          go f is (inr none) = absurd (p.complete f (slice_get_within (heads sys) f h is, none))

  to_precedence : IsArranged (heads sys) order → IsPrecedence sys order
  to_precedence a = record { entries = entries; complete = complete }
    where
      entry : (k : ℕ) (h : Head) → slice_get order k ≡ Some h → IsNewSymbol sys order k
      entry k h at =
          let symbol = among_place h (heads sys) (a.from h (place_among order k h at)) in
          record {
            symbol = symbol.0;
            stands = (h, symbol.1, at);
            is_new = λ j less b. one_of_places order a.distinct j k h less (let one = b.1 in let two = b.2 in let three = symbol.1 in cc) at;
          }

      entries : (k : ℕ) → k < length order → IsNewSymbol sys order k
      entries k less = let at = at_place order k less in entry k at.0 at.1

      complete : (f : ℕ) → IsMissing sys order f → ⊥
      complete f (less, none) =
          let at = at_place (heads sys) f less in
          let place = among_place at.0 order (a.all at.0 (place_among (heads sys) f at.0 at.1)) in none place.0 (at.0, at.1, place.1)

-- symbols stand in order of their numbers
numbers_sorted : (all : List Head) (n : ℕ) (hs : List Head) → ((i : ℕ) (h : Head) → slice_get hs i ≡ Some h → slice_get all (n + i) ≡ Some h)
    → IsSorted (λ h k. (i : ℕ) × (j : ℕ) × (slice_get all i ≡ Some h) × (slice_get all j ≡ Some k) × (i < j)) hs
numbers_sorted all n [] at = tt
numbers_sorted all n (h ∷ hs) at = (
  before_each (λ h k. (i : ℕ) × (j : ℕ) × (slice_get all i ≡ Some h) × (slice_get all j ≡ Some k) × (i < j)) h hs
      (λ k i. let place = among_place k hs i in (n + 0, n + suc place.0, at 0 h refl, at (suc place.0) k place.1, omega arith)),
  numbers_sorted all (suc n) hs (λ i k e. let same : n + suc i ≡ suc n + i = omega arith in subst (λ z. slice_get all z ≡ Some k) same (at (suc i) k e)),
)

sorted_more : {X : Type 0} (R S : X → X → Type 0) → ((x y : X) → R x y → S x y) → (xs : List X) → IsSorted R xs → IsSorted S xs
sorted_more R S into [] s = tt
sorted_more {X = X} R S into (x ∷ xs) (less, s) = (all_more xs less, sorted_more R S into xs s)
  where
    all_more : (ys : List X) → IsBeforeAll R x ys → IsBeforeAll S x ys
    all_more [] l = tt
    all_more (y ∷ ys) (l, ls) = (into x y l, all_more ys ls)

pub heads_sorted : (sys : System) → IsSorted (HasLessNumber sys) (heads sys)
heads_sorted sys =
    sorted_more (λ h k. (i : ℕ) × (j : ℕ) × (slice_get (heads sys) i ≡ Some h) × (slice_get (heads sys) j ≡ Some k) × (i < j)) (HasLessNumber sys)
    (λ h k p. record { number = p.0; number_behind = p.1; first = p.2; second = p.3; less = p.4 }) (heads sys)
    (numbers_sorted (heads sys) 0 (heads sys) (λ i h e. let same : i ≡ 0 + i = omega arith in subst (λ z. slice_get (heads sys) z ≡ Some h) same e))

pub all_precedences : (sys : System) → AreAllPrecedences sys
all_precedences sys =
    record {
      each = λ order. (
        (λ i. to_precedence sys order (arranged (length (heads sys)) (heads sys) refl (heads_distinct sys) order i)),
        (λ p. there (length (heads sys)) (heads sys) refl (heads_distinct sys) order (of_precedence sys order p)),
      );
      sorted = arrangements_sorted (HasLessNumber sys) (length (heads sys)) (heads sys) (heads_sorted sys);
      as_many = length_arrangements (length (heads sys)) (heads sys) refl;
    }
