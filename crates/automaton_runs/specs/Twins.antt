-- The transitions of an automaton as a set.
use Rattle.std.specs.Prelude.{ℕ, ◌↔◌, List, map, filter}
use Rattle.std.specs.BTreeSet.{BTreeSet}
use Rattle.certificates.specs.Evidence.{Transition}
use Rattle.automata.specs.Runs.{Symbols}
use Rattle.rewriting.specs.Lists.{IsAmong}
use Rattle.automaton_runs.specs.Counting.{counts}
use Rattle.automaton_runs.specs.declared.index.Known.{Known}

abbrev pub known_view : Known → Transition
known_view k = record { symbol = k.symbol; arguments = k.args.now; target = k.target }

-- the set has exactly those of the transitions that count
abbrev pub AreKnown : Symbols → ℕ → List Transition → BTreeSet Known → Type 0
AreKnown symbols n ts set = (t : Transition) → IsAmong t (map known_view set.keys) ↔ IsAmong t (filter (counts symbols n) ts)
