-- How a use of an automaton is written, and what is known where it is read.
use Rattle.std.specs.Prelude.{◌≡◌, ◌≤◌, ℕ, List, [], length, map, None}
use Rattle.certificates.specs.Evidence.{Automaton}
use Rattle.cops_names.specs.NameTable.{NameTable}
use Rattle.cert_model.specs.EvidenceView.{automaton_view}
use Rattle.cert_grammar.specs.Prelude.{Version, first_version, second_version, Uses, Item, Between, space, line, states_line, shared_use}
use Rattle.cert_openings.specs.Openings.{uses_with}
use Rattle.cert_words.specs.declared.reading.Reading.{Reading}
use Rattle.cert_reading.specs.declared.uses.Uses as code
use Rattle.cert_reading.specs.declared.uses.Uses.TheVariants.{InFull, ByNumber}
use Rattle.cert_reading.specs.Shared.{IsKnown}

abbrev pub version_by : code.Uses → Version
version_by InFull = first_version
version_by (ByNumber automata) = second_version

-- the automata of which a number tells one
abbrev pub automata_by : code.Uses → List Automaton
automata_by InFull = []
automata_by (ByNumber automata) = map automaton_view automata.now

abbrev pub uses_by : NameTable → code.Uses → Uses
uses_by names uses = uses_with (version_by uses) names (automata_by uses)

-- what stands behind the number of a condition
abbrev pub use_between : Version → Between
use_between first_version = line
use_between second_version = space

-- an automaton, or its number
abbrev pub use_item : Version → Item
use_item first_version = states_line
use_item second_version = shared_use

-- the shared automata are known, if nothing is refused
abbrev pub AreShared : Version → NameTable → List Automaton → ℕ → Reading → Type 0
AreShared first_version names all end r = Unit {0}
AreShared second_version names all end r = r.refused ≡ None → (length r.left.now ≤ end) × IsKnown names all r.shares

abbrev pub AreKnown : NameTable → code.Uses → ℕ → Reading → Type 0
AreKnown names uses end r = AreShared (version_by uses) names (automata_by uses) end r
