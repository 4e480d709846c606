-- The order of positions: no two are before each other, and of two that differ one is before the other.
use Rattle.std.proofs.Common.{ℕ, ◌≡◌, inl, inr, [], ◌∷◌, refl, sym, ap₂, ◌∙◌, arith}
use Rattle.rewriting.specs.Positions.{Position, IsBefore}
use Rattle.rewriting.proofs.Conditions.{Order, is_smaller, is_equal, is_greater, order}

pub before_not_same : (p : Position) → IsBefore p p → ⊥
before_not_same [] h = h
before_not_same (k ∷ p) (inl h) = omega (arith, h)
before_not_same (k ∷ p) (inr (e, h)) = before_not_same p h

pub before_not_both : (p q : Position) → IsBefore p q → IsBefore q p → ⊥
before_not_both [] [] h k = h
before_not_both [] (l ∷ q) h k = k
before_not_both (j ∷ p) [] h k = h
before_not_both (j ∷ p) (l ∷ q) (inl h) (inl k) = omega (arith, h, k)
before_not_both (j ∷ p) (l ∷ q) (inl h) (inr (e, k)) = omega (arith, h, e)
before_not_both (j ∷ p) (l ∷ q) (inr (e, h)) (inl k) = omega (arith, k, e)
before_not_both (j ∷ p) (l ∷ q) (inr (e, h)) (inr (f, k)) = before_not_both p q h k

pub before_before : (p q r : Position) → IsBefore p q → IsBefore q r → IsBefore p r
before_before p q [] h k = k
before_before p [] (n ∷ r) h k = absurd h
before_before [] (l ∷ q) (n ∷ r) h k = tt
before_before (i ∷ p) (l ∷ q) (n ∷ r) (inl h) (inl k) = inl (omega (arith, h, k))
before_before (i ∷ p) (l ∷ q) (n ∷ r) (inl h) (inr (e, k)) = inl (omega (arith, h, e))
before_before (i ∷ p) (l ∷ q) (n ∷ r) (inr (e, h)) (inl k) = inl (omega (arith, e, k))
before_before (i ∷ p) (l ∷ q) (n ∷ r) (inr (e, h)) (inr (f, k)) = inr (e ∙ f, before_before p q r h k)

-- how two things stand in an order
pub data Ordered {A : Type 0} (R : A → A → Type 0) (a b : A) : Type 0 where
  comes_first : R a b → Ordered R a b
  is_same : a ≡ b → Ordered R a b
  comes_last : R b a → Ordered R a b

pub order_positions : (p q : Position) → Ordered IsBefore p q
order_positions [] [] = is_same refl
order_positions [] (l ∷ q) = comes_first tt
order_positions (k ∷ p) [] = comes_last tt
order_positions (k ∷ p) (l ∷ q) = go (order k l) (order_positions p q)
  where
    go : Order k l → Ordered IsBefore p q → Ordered IsBefore (k ∷ p) (l ∷ q)
    go (is_smaller h) o = comes_first (inl h)
    go (is_greater h) o = comes_last (inl h)
    go (is_equal e) (comes_first h) = comes_first (inr (e, h))
    go (is_equal e) (is_same h) = is_same (ap₂ (λ (n : ℕ) (r : Position). n ∷ r) e h)
    go (is_equal e) (comes_last h) = comes_last (inr (sym e, h))
