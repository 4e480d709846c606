-- Facts that are decided, by parts.
use Rattle.std.proofs.Common.{◌≡◌, ◌⊎◌, inl, inr, ℕ, List, [], ◌∷◌, refl, arith}
use native.Mathlib.Decide.{ℕ_discrete, map_dec}

pub dec_and : {A B : Type 0} → Dec A → Dec B → Dec (A × B)
dec_and (yes a) (yes b) = yes (a, b)
dec_and (yes a) (no k) = no (λ p. k p.1)
dec_and (no k) d = no (λ p. k p.0)

pub same_numbers : (xs ys : List ℕ) → Dec (xs ≡ ys)
same_numbers [] [] = yes refl
same_numbers [] (y ∷ ys) = no (λ e. cc)
same_numbers (x ∷ xs) [] = no (λ e. cc)
same_numbers (x ∷ xs) (y ∷ ys) = map_dec (λ (e, f). cc) (λ e. grind arith) (dec_and (ℕ_discrete x y) (same_numbers xs ys))

-- a decision told with the refusal first
pub no_or_yes : {A : Type 0} → Dec A → (A → ⊥) ⊎ A
no_or_yes (yes a) = inr a
no_or_yes (no k) = inl k

pub turned : {A : Type 0} → A ⊎ (A → ⊥) → (A → ⊥) ⊎ A
turned (inl a) = inr a
turned (inr k) = inl k
