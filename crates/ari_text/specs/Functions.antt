-- Which names are those of functions that a problem declares.
use Rattle.std.specs.Prelude.{◌≡◌, ℕ, List, [], ◌∷◌, Option, None, Some, option_map, slice_get}
use Rattle.file_text.specs.Syntax.{Name}
use Rattle.cops_names.specs.NameTable.{number_of}

-- the number of arguments of the function with a number
abbrev pub arity_from : List (List ℕ × ℕ) → Option ℕ → Option ℕ
arity_from fs None = None
arity_from fs (Some n) = option_map (λ f. f.1) (slice_get fs n)

-- the number of arguments of the function with a name, where one is declared
abbrev pub arity_of : List (List ℕ × ℕ) → List ℕ → Option ℕ
arity_of fs name = arity_from fs (number_of fs name)

-- no function has one of these names
abbrev pub AreUndeclared : List (List ℕ × ℕ) → List Name → Type 0
AreUndeclared fs [] = Unit {0}
AreUndeclared fs (x ∷ xs) = (arity_of fs x.text ≡ None) × AreUndeclared fs xs

-- each of these symbols is a function with as many arguments
abbrev pub AreDeclared : List (List ℕ × ℕ) → List (List ℕ × ℕ) → Type 0
AreDeclared fs [] = Unit {0}
AreDeclared fs (s ∷ ss) = (arity_of fs s.0 ≡ Some s.1) × AreDeclared fs ss
