-- Terms with places of a row for their variables, and rules whose first conditions are numbered so.
use Rattle.std.specs.Prelude.{ℕ, ◌≡◌, true, List, [], ◌∷◌, ◌++◌}
use Rattle.rewriting.specs.Prelude.{Term, var, cons, IsAmong, AreDistinct, Condition, sides, Substitution, apply, index_in, occurs, with_variables_of}

-- its place in the row, for each variable
abbrev pub places : List ℕ → Substitution
places row = λ x. var (index_in row x)

-- u is t with places of the row for its variables
pub record IsPlaced (row : List ℕ) (t u : Term) : Type 0 where
  pub is : u ≡ apply (places row) t
  pub among : (x : ℕ) → occurs x t ≡ true → IsAmong x row

abbrev pub ArePlaced : List ℕ → List Condition → List Condition → Type 0
ArePlaced row [] [] = Unit {0}
ArePlaced row [] (d ∷ ds) = ⊥
ArePlaced row (c ∷ cs) [] = ⊥
ArePlaced row (c ∷ cs) (d ∷ ds) = IsPlaced row c.left d.left × IsPlaced row c.right d.right × ArePlaced row cs ds

-- a rule whose first conditions are numbered
pub record Progress (l r l' r' : Term) (cs ds : List Condition) (row : List ℕ) : Type 0 where
  pub row_is : row ≡ with_variables_of [] (cons l (cons r (sides cs)))
  pub distinct : AreDistinct row
  pub left : IsPlaced row l l'
  pub right : IsPlaced row r r'
  pub conds : ArePlaced row cs ds

-- behind conditions that are numbered as ds by the row, these are numbered too, whatever the rule
abbrev pub AddsNumbered : List Condition → List Condition → List ℕ → List Condition → List ℕ → Type 0
AddsNumbered more ds row new_ds new_row =
    (l r l' r' : Term) (cs : List Condition) → Progress l r l' r' cs ds row → Progress l r l' r' (cs ++ more) new_ds new_row
