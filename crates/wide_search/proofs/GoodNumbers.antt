-- Numbers that are tried, as a list of them grows and changes, and that they are good.
use Rattle.std.proofs.Common.{ℕ, zero, suc, ◌≡◌, ◌≤◌, ◌⊎◌, inl, inr, List, [], ◌∷◌, ◌++◌, length, slice_get, Some, refl, sym, ap, subst, arith}
use Rattle.std.proofs.lemmas.Option.{slice_get_within}
use Rattle.rewriting.specs.Prelude.{System, Head, file, auxiliary, auxiliary_heads, heads, IsActive}
use Rattle.interpretations.specs.Linear.{AreNumbersGood}
use Rattle.measure_grid.proofs.Shape.{file_at}
use Rattle.wide_search.specs.Tried.{IsOneAtLeast, IsTriedAt, AreTriedOf, AreTried}

-- what stands at a place of a list with one more at its end
pub pushed_at : {X : Type 0} (xs : List X) (y x : X) (k : ℕ) → slice_get (xs ++ y ∷ []) k ≡ Some x → (slice_get xs k ≡ Some x) ⊎ ((k ≡ length xs) × (x ≡ y))
pushed_at [] y x zero e = inr (refl, cc)
pushed_at [] y x (suc k) e = absurd (cc)
pushed_at (z ∷ xs) y x zero e = inl e
pushed_at (z ∷ xs) y x (suc k) e = further (pushed_at xs y x k e)
  where
    further : (slice_get xs k ≡ Some x) ⊎ ((k ≡ length xs) × (x ≡ y)) → (slice_get xs k ≡ Some x) ⊎ ((suc k ≡ suc (length xs)) × (x ≡ y))
    further (inl h) = inl h
    further (inr (same, is)) = inr (ap suc same, is)

module _ (head : Head) (count : ℕ) where
  at_place : (k i c n : ℕ) → k ≡ i → c ≡ n → IsTriedAt head count i n → IsTriedAt head count k c
  at_place k i c n same is h = subst (λ z. IsTriedAt head count z c) (sym same) (subst (λ z. IsTriedAt head count i z) (sym is) h)

  pub one_more : (cs : List ℕ) (n : ℕ) → AreTriedOf head count cs → IsTriedAt head count (length cs) n → AreTriedOf head count (cs ++ n ∷ [])
  one_more cs n h last k c e = by (pushed_at cs n c k e)
    where
      by : (slice_get cs k ≡ Some c) ⊎ ((k ≡ length cs) × (c ≡ n)) → IsTriedAt head count k c
      by (inl at) = h k c at
      by (inr (same, is)) = at_place k (length cs) c n same is last

module _ (sys : System) (f : ℕ) where
  active_least : (head : Head) (count k : ℕ) → slice_get (heads sys) f ≡ Some head → IsActive sys f (suc k) → 2 ≤ count → IsOneAtLeast head count (suc k)
  active_least (file g) count k is active two = two
  active_least (auxiliary i j) count k is (inr first) two = (two, omega (arith, first))
  active_least (auxiliary i j) count k is (inl less) two =
      let own = file_at 0 sys.arities (auxiliary_heads 1 sys.rules) f (auxiliary i j) less is in let no = own.1 in absurd (cc)

  constant_least : (head : Head) (count : ℕ) → 2 ≤ count → IsOneAtLeast head count 0
  constant_least (file g) count two = two
  constant_least (auxiliary i j) count two = (two, omega arith)

  -- numbers that are tried are good
  pub tried_good : (head : Head) (cs : List ℕ) → slice_get (heads sys) f ≡ Some head → AreTried head cs → AreNumbersGood sys f cs
  tried_good head cs is h = record {
    small = λ k c at. (let small = (h k c at).small in omega (arith, small));
    active = λ k c at active. (let within = slice_get_within cs (suc k) c at in (h (suc k) c at).least (active_least head (length cs) k is active (omega (arith, within))));
    constant = λ c at two. (h 0 c at).least (constant_least head (length cs) two);
  }
