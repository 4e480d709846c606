-- The first letters of texts, and of the first word of a command.
use Rattle.std.proofs.Common.{◌≡◌, ℕ, List, [], ◌∷◌, get_or, ap}

abbrev pub first_letter : List (List ℕ) → ℕ
first_letter words = get_or (get_or words 0 []) 0 0

same_head : (a b : ℕ) (xs ys : List ℕ) → a ∷ xs ≡ b ∷ ys → a ≡ b
same_head a b xs ys e = ap (λ (l : List ℕ). get_or l 0 0) e

-- a text that begins with one letter does not begin with another
pub begins : (a b : ℕ) (xs rest : List ℕ) → a ∷ xs ≡ b ∷ rest → (a ≡ b → ⊥) → ⊥
begins a b xs rest e differ = differ (same_head a b xs rest e)
