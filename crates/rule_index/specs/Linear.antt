-- Which left sides are linear.
use Rattle.std.specs.Prelude.{◌↔◌, Bool, IsTrue, List, [], ◌∷◌}
use Rattle.rewriting.specs.Prelude.{IsLinear, Rule}

-- whether the left side of each rule is linear, in order
abbrev pub TellLinear : List Rule → List Bool → Type 0
TellLinear [] [] = Unit {0}
TellLinear [] (b ∷ bs) = ⊥
TellLinear (r ∷ rs) [] = ⊥
TellLinear (r ∷ rs) (b ∷ bs) = (IsTrue b ↔ IsLinear r.left) × TellLinear rs bs
