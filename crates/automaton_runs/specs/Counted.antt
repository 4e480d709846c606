-- An automaton with the symbols by which its transitions count.
use Rattle.std.specs.Prelude.{ℕ, List, Option, None, Some}
use Rattle.std.specs.Borrow.{Bor}
use Rattle.rewriting.specs.Rules.{System}
use Rattle.certificates.specs.Evidence.{Automaton}
use Rattle.automata.specs.Runs.{Moves, Symbols, Has}

pub record Indexed : Type 0 where
  pub symbols : Symbols
  pub automaton : Automaton

-- the automaton has the transition by these symbols
abbrev pub Finds : Indexed → Moves
Finds a = Has a.symbols a.automaton

-- an automaton with the symbols of a system
abbrev pub under : System → Automaton → Indexed
under sys a = record { symbols = Some sys.arities; automaton = a }

-- an automaton with all symbols
abbrev pub under_all : Automaton → Indexed
under_all a = record { symbols = None; automaton = a }

-- the symbols of a signature, or all where there is none
abbrev pub symbols_of : Option (Bor (List ℕ)) → Symbols
symbols_of None = None
symbols_of (Some arities) = Some arities.now
