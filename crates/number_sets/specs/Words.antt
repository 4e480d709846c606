-- What two lists of words have, number by number.
use Rattle.std.specs.Prelude.{ℕ, ◌≡◌, ◌<◌, ◌⊎◌, ◌↔◌, true, List, Option, None, Some}
use Rattle.number_sets.specs.Sets.{is_set}

-- the others have each number below n
abbrev pub AreHad : List ℕ → List ℕ → ℕ → Type 0
AreHad words others n = (p : ℕ) → p < n → is_set words p ≡ true → is_set others p ≡ true

-- the first number that the others lack, where they lack one below n
abbrev pub IsFirstLacking : List ℕ → List ℕ → ℕ → Option ℕ → Type 0
IsFirstLacking words others n None = AreHad words others n
IsFirstLacking words others n (Some q) = (is_set words q ≡ true) × (is_set others q ≡ true → ⊥) × AreHad words others q

-- the new words have what the old ones have, and what the others have below n
abbrev pub AreJoined : List ℕ → List ℕ → List ℕ → ℕ → Type 0
AreJoined old others new n = (q : ℕ) → (is_set new q ≡ true) ↔ ((is_set old q ≡ true) ⊎ ((q < n) × (is_set others q ≡ true)))
