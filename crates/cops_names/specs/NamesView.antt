-- The lists that a `Names` stands for.
use Rattle.std.specs.Prelude.{List, ℕ, map, string_bytes, String}
use Rattle.std.specs.Global.{Global}
use Rattle.cops_names.specs.NameTable.{NameTable}
use Rattle.cops_names.specs.declared.names.Names.TheInside.{Inside}

abbrev pub symbols_of : List (String Global × ℕ) → List (List ℕ × ℕ)
symbols_of entries = map (λ e. (string_bytes e.0, e.1)) entries

-- the texts of some strings
abbrev pub texts_of : List (String Global) → List (List ℕ)
texts_of names = map string_bytes names

abbrev pub names_view : Inside → NameTable
names_view n = record { symbols = symbols_of n.symbols.entries; variables = map (λ v. texts_of v.items) n.rules.items }
