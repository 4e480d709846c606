-- Symbols that are found by their names, and what marks do not show of an automaton.
use Rattle.std.specs.Prelude.{◌≡◌, ℕ, List, [], ◌∷◌, Option, Some, None}
use Rattle.certificates.specs.Evidence.{Transition}
use Rattle.cops_names.specs.NameTable.{NameTable, number_of}
use Rattle.cert_grammar.specs.Prelude.{name_of, Naming, Mark, fixed, word, symbol, behind, closed}

-- a symbol is the one that is found by its name; each is named by its number alone here
abbrev pub tagged : Naming
tagged f = f ∷ []

abbrev pub IsFound : NameTable → List ℕ → Type 0
IsFound names [] = Unit {0}
IsFound names (f ∷ others) = number_of names.symbols (name_of names f) ≡ Some f

abbrev pub AreFound : NameTable → List Mark → Type 0
AreFound names [] = Unit {0}
AreFound names (fixed bytes ∷ ms) = AreFound names ms
AreFound names (word bytes demands ∷ ms) = AreFound names ms
AreFound names (symbol name demands ∷ ms) = IsFound names name × AreFound names ms
AreFound names (behind demand ∷ ms) = AreFound names ms
AreFound names (closed demand ∷ ms) = AreFound names ms

-- a variable has no states: its marks do not show them
abbrev pub HasNoStates : Option ℕ → List ℕ → Type 0
HasNoStates None states = states ≡ []
HasNoStates (Some f) states = Unit {0}

abbrev pub AreWithoutStates : List Transition → Type 0
AreWithoutStates [] = Unit {0}
AreWithoutStates (t ∷ ts) = HasNoStates t.symbol t.arguments × AreWithoutStates ts
