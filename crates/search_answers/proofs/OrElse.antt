-- A space is searched, and where it holds nothing, another one behind it.
use Rattle.std.proofs.Common.{ℕ, ◌≡◌, ◌+◌, Result, Ok, Err, refl, arith}
use Rattle.term_core.specs.declared.terms.NoMemory.{NoMemory}
use Rattle.cc_count.specs.Counts.{Counts, Spends}
use Rattle.cc_count.proofs.Spending.{spends_both}
use Rattle.first_found.specs.Spaces.{Ending, found, nothing, spent}
use Rattle.search_answers.specs.Answers.{Searches}

module _ {A C : Type 0} (view : A → Ending C) (First Both : ℕ → ℕ → Ending C → Type 0) where
  -- what the first search ends with that is not nothing, both end with
  module _ (finds : (left n : ℕ) (c : C) → First left n (found c) → Both left n (found c)) (spends : (left n : ℕ) → First left n spent → Both left n spent) where
    stands_so : (left n : ℕ) (e : Ending C) → (e ≡ nothing → ⊥) → First left n e → Both left n e
    stands_so left n (found c) other h = finds left n c h
    stands_so left n nothing other h = absurd (other refl)
    stands_so left n spent other h = spends left n h

    pub stands : (before here : Counts) (a : A) → (view a ≡ nothing → ⊥) → Searches view First before here (Ok a) → Searches view Both before here (Ok a)
    stands before here a other (n, s, h) = (n, s, stands_so before.left n (view a) other h)

  -- where the first holds nothing, the second is searched with what is left
  module _ (Second : ℕ → ℕ → Ending C → Type 0)
      (goes_on : (left n rest m : ℕ) (e : Ending C) → First left n nothing → left ≡ n + rest → Second rest m e → Both left (n + m) e) (before here after : Counts) where
    pub or_else : (n : ℕ) × Spends before n here × First before.left n nothing → (r : Result A NoMemory) → Searches view Second here after r → Searches view Both before after r
    or_else (n, s, none) (Ok a) (m, t, h) =
        let left = s.left in
        (n + m, spends_both before here after n m s t, goes_on before.left n here.left m (view a) none (omega (arith, left)) h)
    or_else none (Err e) h = tt
