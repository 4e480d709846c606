-- The line of an overlap, or of a redex: what stands between its word and its evidence.
use Rattle.std.specs.Prelude.{ℕ, List, [], ◌∷◌, codes}
use Rattle.cert_grammar.specs.Prelude.{Mark, fixed, number, position, Item, between, space, any_number, any_position}

abbrev pub line_items : List Item
line_items = between space ∷ any_number space ∷ any_position space ∷ any_number space ∷ []

abbrev pub line_marks : ℕ → List ℕ → ℕ → List Mark
line_marks first p second = fixed (codes " ") ∷ number first ∷ fixed (codes " ") ∷ position p ∷ fixed (codes " ") ∷ number second ∷ fixed (codes " ") ∷ []
