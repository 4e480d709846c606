-- Accepted states, and states that are marked.
use Rattle.std.specs.Prelude.{ℕ, ◌≡◌, true, Bool, List, slice_get, Some}
use Rattle.certificates.specs.Evidence.{Automaton}
use Rattle.automata.specs.Runs.{IsAccepting}
use Rattle.number_sets.specs.Relation.{Relates}
use Rattle.number_sets.specs.declared.rows.NumberRelation.{NumberRelation}

-- one of the states that are related to some number is accepting
abbrev pub IsOneAccepting : Automaton → NumberRelation → Type 0
IsOneAccepting a r = (q k : ℕ) × Relates r q k × IsAccepting a q

-- the state is marked
abbrev pub IsMarked : List Bool → ℕ → Type 0
IsMarked marks q = slice_get marks q ≡ Some true
