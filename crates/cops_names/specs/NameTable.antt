-- The names of a system: of its symbols, with their arities, and of the variables of each rule.
use Rattle.std.specs.Prelude.{List, [], ◌∷◌, ◌++◌, map, ℕ, zero, suc, Option, None, position, slice_get, option_map}
use Rattle.std.specs.Option.{option_and_then}
use Rattle.std.specs.Str.{bytes_eq}

-- names are lists of bytes, in the order of their numbers; symbols stand with their arities
pub record NameTable : Type 0 where
  pub symbols : List (List ℕ × ℕ)
  pub variables : List (List (List ℕ))

-- all names of some lists
abbrev pub all_of : List (List (List ℕ)) → List (List ℕ)
all_of [] = []
all_of (ns ∷ rest) = ns ++ all_of rest

-- the names of all symbols and of all variables of rules
abbrev pub all_names : NameTable → List (List ℕ)
all_names names = map (λ s. s.0) names.symbols ++ all_of names.variables

-- the number of a symbol
abbrev pub number_of : List (List ℕ × ℕ) → List ℕ → Option ℕ
number_of symbols name = position (λ s. bytes_eq name s.0) symbols

-- the name of a symbol, and its arity
abbrev pub name_at : NameTable → ℕ → Option (List ℕ)
name_at names n = option_map (λ s. s.0) (slice_get names.symbols n)

abbrev pub arity_at : NameTable → ℕ → Option ℕ
arity_at names n = option_map (λ s. s.1) (slice_get names.symbols n)

-- the names of a rule's variables; rules are numbered from 1
abbrev pub variables_at : NameTable → ℕ → Option (List (List ℕ))
variables_at names zero = None
variables_at names (suc rule) = slice_get names.variables rule

-- the name of variable k of a rule
abbrev pub variable_at : NameTable → ℕ → ℕ → Option (List ℕ)
variable_at names rule k = option_and_then (λ list. slice_get list k) (variables_at names rule)
