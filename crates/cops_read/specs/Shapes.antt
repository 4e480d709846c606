-- The first bytes and the lengths that the names of a list have.
use Rattle.std.specs.Prelude.{◌≡◌, ℕ, ◌+◌, ◌*◌, Bool, true, false, List, [], ◌∷◌, length, min, slice_index_or}

-- both as one number, where seven bytes and more are one length
abbrev pub shape_of : List ℕ → ℕ
shape_of [] = 0
shape_of (x ∷ xs) = x + 256 * min (length (x ∷ xs)) 7

abbrev pub IsShown : List Bool → List ℕ → Type 0
IsShown shapes name = slice_index_or shapes (shape_of name) false ≡ true

-- each name has one of the marked shapes
abbrev pub AreShown : List Bool → List (List ℕ) → Type 0
AreShown shapes [] = Unit {0}
AreShown shapes (n ∷ ns) = IsShown shapes n × AreShown shapes ns
