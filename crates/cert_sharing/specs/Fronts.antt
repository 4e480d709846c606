-- Shared automata of which a certificate uses the first.
use Rattle.std.specs.Prelude.{◌≡◌, ◌≤◌, List, [], ◌++◌, length}
use Rattle.cert_grammar.specs.declared.limits.TheConstants.{MOST_UNFOLDED, MOST_SHARED}
use Rattle.certificates.specs.Prelude.{Automaton, Certificate}
use Rattle.cops_names.specs.NameTable.{NameTable}
use Rattle.cert_grammar.specs.Prelude.{Version, first_version, second_version, Uses, in_full, by_number, automata_of, texts_of, shared_by, number_in, unfolded_length, AllNew, AreAutomata}

-- how the uses are written where these automata are shared
abbrev pub uses_with : Version → NameTable → List Automaton → Uses
uses_with first_version names all = in_full
uses_with second_version names all = by_number (number_in names all)

-- the shared automata are those of the certificate, in the order of first uses, and then these, which it does not use
abbrev pub AreLeft : Version → NameTable → Certificate → List Automaton → Type 0
AreLeft first_version names c left = left ≡ []
AreLeft second_version names c left =
    (length (shared_by names c ++ left) ≤ MOST_SHARED)
    × AllNew [] (texts_of names (shared_by names c ++ left))
    × AreAutomata names (shared_by names c ++ left)
    × (unfolded_length names (automata_of c) ≤ MOST_UNFOLDED)
