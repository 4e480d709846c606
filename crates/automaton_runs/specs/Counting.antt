-- The transitions of an automaton that count, and what they are looked up by.
use Rattle.std.specs.Prelude.{ℕ, Bool, true, false, ◌&&◌, nat_lt, nat_eq, List, [], ◌∷◌, Option, None, Some, length, slice_get}
use Rattle.certificates.specs.Evidence.{Transition}
use Rattle.automata.specs.Runs.{Symbols}

abbrev pub are_below : ℕ → List ℕ → Bool
are_below n [] = true
are_below n (q ∷ qs) = nat_lt q n && are_below n qs

abbrev pub is_number : Option ℕ → ℕ → Bool
is_number None q = false
is_number (Some p) q = nat_eq p q

-- the symbol may have so many arguments
abbrev pub has_arity : Symbols → ℕ → ℕ → Bool
has_arity None f n = true
has_arity (Some arities) f n = is_number (slice_get arities f) n

-- a transition without a symbol has no arguments
abbrev pub is_head : Symbols → Option ℕ → List ℕ → Bool
is_head symbols None [] = true
is_head symbols None (q ∷ qs) = false
is_head symbols (Some f) qs = has_arity symbols f (length qs)

-- the transition counts by the symbols where there are n states
abbrev pub counts : Symbols → ℕ → Transition → Bool
counts symbols n t = is_head symbols t.symbol t.arguments && (are_below n t.arguments && nat_lt t.target n)

-- a number to look a transition up by: its symbol, its first argument, or its target
pub data Key : Type 0 where
  symbol_key : Key
  first_key : Key
  target_key : Key

abbrev pub key_of : Key → Transition → Option ℕ
key_of symbol_key t = t.symbol
key_of first_key t = slice_get t.arguments 0
key_of target_key t = Some t.target

-- the transition counts and has the number
abbrev pub chosen : Symbols → Key → ℕ → ℕ → Transition → Bool
chosen symbols key n q t = counts symbols n t && is_number (key_of key t) q
