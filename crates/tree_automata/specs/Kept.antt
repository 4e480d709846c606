-- States that include others, and choices by which right sides are kept.
use Rattle.automaton_runs.specs.Counted.{Indexed, Finds}
use Rattle.std.specs.Prelude.{ℕ, ◌≡◌, ◌↔◌, ◌<◌, List, Some}
use Rattle.rewriting.specs.Prelude.{Term, var, app, Rule, System, rule_at, IsAmong}
use Rattle.automata.specs.Runs.{Reach, at}
use Rattle.automata.specs.Closed.{Includes, state_of}
use Rattle.number_sets.specs.Relation.{Relates}
use Rattle.number_sets.specs.declared.rows.NumberRelation.{NumberRelation}

-- exactly the states that include p
abbrev pub AreIncluding : Indexed → ℕ → List ℕ → Type 0
AreIncluding a p set = (q : ℕ) → IsAmong q set ↔ ((q < a.automaton.states) × Includes (Finds a) q p)

-- each state is related to exactly those that include it
abbrev pub IsInclusion : Indexed → NumberRelation → Type 0
IsInclusion a r = (p q : ℕ) → Relates r p q ↔ ((p < a.automaton.states) × (q < a.automaton.states) × Includes (Finds a) q p)

abbrev pub IsVariable : Term → Type 0
IsVariable (var x) = Unit {0}
IsVariable (app f ts) = ⊥

-- the relation has the states that include others, where a right side is a variable
abbrev pub IsInclusionIfAsked : System → Indexed → NumberRelation → Type 0
IsInclusionIfAsked sys a r = (i : ℕ) (rule : Rule) → rule_at sys i ≡ Some rule → IsVariable rule.right → IsInclusion a r

-- the right side is kept at q, where a relation tells which states include others
abbrev pub IsKeptBy : NumberRelation → Indexed → List ℕ → Term → List ℕ → ℕ → Type 0
IsKeptBy r a names (var x) cs q = Relates r (state_of names cs x) q
IsKeptBy r a names (app f ts) cs q = Reach (Finds a) (at (state_of names cs)) (app f ts) q
