-- What bytes and counts become while a text is written.
use Rattle.std.specs.Prelude.{◌≡◌, ◌≤◌, ◌+◌, ℕ, List, [], ◌∷◌, ◌++◌, Bool, true, false, length, min}

-- the bytes have grown by a front of the text
pub record GrewByFront (old text new : List ℕ) : Type 0 where
  pub front : List ℕ
  pub rest : List ℕ
  pub parts : text ≡ front ++ rest
  pub grown : new ≡ old ++ front

-- bytes, and whether memory for more was refused: then no more come
pub record IsWritten (old : List ℕ) (was_refused : Bool) (text new : List ℕ) (refused : Bool) : Type 0 where
  pub whole : refused ≡ false → (was_refused ≡ false) × (new ≡ old ++ text)
  pub front : GrewByFront old text new
  pub ended : was_refused ≡ true → (refused ≡ true) × (new ≡ old)

-- one text after the other
abbrev pub each : {A : Type 0} → (A → List ℕ) → List A → List ℕ
each text [] = []
each text (x ∷ xs) = text x ++ each text xs

-- the greatest count
abbrev pub greatest : ℕ
greatest = 18446744073709551615

-- a count that stops at the greatest, unless memory was refused
abbrev pub IsCounted : ℕ → Bool → List ℕ → ℕ → Bool → Type 0
IsCounted old was_refused text new refused = refused ≡ false → (was_refused ≡ false) × (old ≤ greatest → new ≡ min (old + length text) greatest)
