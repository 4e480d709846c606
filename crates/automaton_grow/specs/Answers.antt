-- What growing an automaton answers.
use Rattle.std.specs.Prelude.{ℕ, ◌≡◌, ◌≤◌, length, Some, Result, Ok, Err}
use Rattle.automata.specs.declared.TheConstants.{MOST_GROWN_TRANSITIONS}
use Rattle.rewriting.specs.Prelude.{Term, Rule, System, rule_at}
use Rattle.automata.specs.Growth.{IsGrowthOf, AreStatesMany, IsTooWide, IsFirstTooWide, AreTransitionsMany}
use Rattle.cert_model.specs.EvidenceView.{automaton_view}
use Rattle.cert_model.specs.declared.evidence.Automaton.{Automaton}
use Rattle.automaton_grow.specs.declared.GrowError.{GrowError}
use Rattle.automaton_grow.specs.declared.GrowError.TheVariants.{TooWide, TooManyStates, TooManyTransitions, NoMemory}

-- no left side has too many choices
abbrev pub AreSidesNarrow : System → Term → Type 0
AreSidesNarrow sys s = (i : ℕ) (r : Rule) → rule_at sys i ≡ Some r → IsTooWide sys s r → ⊥

-- the automaton that grows from the term, within all limits, or the first limit that it passes: states, then choices, then transitions
abbrev pub GrowAnswers : System → Term → Result Automaton GrowError → Type 0
GrowAnswers sys s (Ok a) = (AreStatesMany sys s → ⊥) × AreSidesNarrow sys s × IsGrowthOf sys s (automaton_view a) × (length (automaton_view a).transitions ≤ MOST_GROWN_TRANSITIONS)
GrowAnswers sys s (Err (TooWide rule)) = (AreStatesMany sys s → ⊥) × IsFirstTooWide sys s rule
GrowAnswers sys s (Err TooManyStates) = AreStatesMany sys s
GrowAnswers sys s (Err TooManyTransitions) = (AreStatesMany sys s → ⊥) × AreSidesNarrow sys s × AreTransitionsMany sys s
GrowAnswers sys s (Err NoMemory) = Unit {0}
