-- Lists: what is on them, lists in order, and lists that begin with another.
use Rattle.std.specs.Prelude.{ℕ, ◌≡◌, ◌⊎◌, nat_eq, if◌then◌else◌, List, [], ◌∷◌, ◌++◌}

-- x is on the list
abbrev pub IsAmong : {X : Type 0} → X → List X → Type 0
IsAmong x [] = ⊥
IsAmong x (y ∷ ys) = (x ≡ y) ⊎ IsAmong x ys

-- nothing is on the list twice
abbrev pub AreDistinct : {X : Type 0} → List X → Type 0
AreDistinct [] = Unit {0}
AreDistinct (x ∷ xs) = (IsAmong x xs → ⊥) × AreDistinct xs

-- in an order, x is before all that are on the list
abbrev pub IsBeforeAll : {X : Type 0} → (X → X → Type 0) → X → List X → Type 0
IsBeforeAll order x [] = Unit {0}
IsBeforeAll order x (y ∷ ys) = order x y × IsBeforeAll order x ys

-- each is before all behind it
abbrev pub IsSorted : {X : Type 0} → (X → X → Type 0) → List X → Type 0
IsSorted order [] = Unit {0}
IsSorted order (x ∷ xs) = IsBeforeAll order x xs × IsSorted order xs

-- the second list begins with the first
abbrev pub IsFront : {X : Type 0} → List X → List X → Type 0
IsFront {X} xs ys = (rest : List X) × (ys ≡ xs ++ rest)

-- a list of numbers without x
abbrev pub without : ℕ → List ℕ → List ℕ
without x [] = []
without x (y ∷ ys) = if nat_eq x y then without x ys else (y ∷ without x ys)

-- each number of a list where it first stands
abbrev pub firsts : List ℕ → List ℕ
firsts [] = []
firsts (x ∷ xs) = x ∷ without x (firsts xs)
