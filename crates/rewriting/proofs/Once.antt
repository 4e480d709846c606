-- A relation that holds of one thing at most, put together from others.
use Rattle.std.proofs.Common.{Option, Some, None, ◌≡◌, ◌⊎◌, inl, inr, ℕ, ◌<◌, sym, ◌∙◌, subst}
use Rattle.rewriting.proofs.Conditions.{Order, is_smaller, is_equal, is_greater, order}

abbrev pub IsOnce : (A : Type 0) → (A → Type 0) → Type 0
IsOnce A R = (r s : A) → R r → R s → r ≡ s

-- one of two relations that exclude each other
pub or_once : (A : Type 0) (F R : A → Type 0) → ((r s : A) → F r → R s → ⊥) → IsOnce A F → IsOnce A R → IsOnce A (λ r. F r ⊎ R r)
or_once A F R apart f g r s (inl h) (inl k) = f r s h k
or_once A F R apart f g r s (inl h) (inr k) = absurd (apart r s h k)
or_once A F R apart f g r s (inr h) (inl k) = absurd (apart s r k h)
or_once A F R apart f g r s (inr h) (inr k) = g r s h k

-- a test fails, or it holds and a relation follows
pub test_once : (A H : Type 0) (F R : A → Type 0) → ((r : A) → F r → H → ⊥) → IsOnce A F → IsOnce A R → IsOnce A (λ r. F r ⊎ (H × R r))
test_once A H F R apart f g r s (inl h) (inl k) = f r s h k
test_once A H F R apart f g r s (inl h) (inr k) = absurd (apart r h k.0)
test_once A H F R apart f g r s (inr h) (inl k) = absurd (apart s k h.0)
test_once A H F R apart f g r s (inr h) (inr k) = g r s h.1 k.1

-- a relation that takes what another holds of
pub with_once : (A W : Type 0) (P : W → Type 0) (Q : W → A → Type 0) → IsOnce W P → ((w : W) → IsOnce A (Q w)) → IsOnce A (λ r. (w : W) × P w × Q w r)
with_once A W P Q one f r s (v, p, h) (w, q, k) = f w r s (subst (λ z. Q z r) (one v w p q) h) k

-- a fact, and what it gives
pub fact_once : (A H : Type 0) (x : A) → IsOnce A (λ r. H × (r ≡ x))
fact_once A H x r s h k = h.1 ∙ sym k.1

-- one of two facts that exclude each other
pub facts_once : (A H K : Type 0) (x y : A) → (H → K → ⊥) → IsOnce A (λ r. (H × (r ≡ x)) ⊎ (K × (r ≡ y)))
facts_once A H K x y apart = or_once A (λ r. H × (r ≡ x)) (λ r. K × (r ≡ y)) (λ r s h k. apart h.0 k.0) (fact_once A H x) (fact_once A K y)

-- at most one number has a property that no two numbers have
pub least_once : (P : ℕ → Type 0) → ((i k : ℕ) → i < k → P i → P k → ⊥) → IsOnce ℕ P
least_once P apart i k h q = go (order i k)
  where
    go : Order i k → i ≡ k
    go (is_smaller lt) = absurd (apart i k lt h q)
    go (is_equal e) = e
    go (is_greater lt) = absurd (apart k i lt q h)

-- a relation within another
pub once_within : (A : Type 0) (R S : A → Type 0) → ((r : A) → R r → S r) → IsOnce A S → IsOnce A R
once_within A R S into f r s h k = f r s (into r h) (into s k)

-- what stands in an option is one thing, and then it is not empty
pub same_some : {A : Type 0} (o : Option A) (x y : A) → o ≡ Some x → o ≡ Some y → x ≡ y
same_some o x y e f = cc

pub some_or_none : {A : Type 0} (o : Option A) (x : A) → o ≡ Some x → o ≡ None → ⊥
some_or_none o x e f = cc
