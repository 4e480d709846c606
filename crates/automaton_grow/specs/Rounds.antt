-- What the parts of a round answer.
use Rattle.std.specs.Prelude.{ℕ, ◌≡◌, ◌<◌, ◌≤◌, ◌⊎◌, List, [], Contains, length, map, replicate, slice_get, None, Some, Result, Ok, Err, Vec}
use Rattle.std.specs.Global.{Global}
use Rattle.automata.specs.declared.TheConstants.{MOST_GROWN_TRANSITIONS}
use Rattle.rewriting.specs.Prelude.{Term, Rule, System, Signature}
use Rattle.certificates.specs.Evidence as evidence
use Rattle.cert_model.specs.declared.evidence.Transition.{Transition}
use Rattle.cert_model.specs.declared.evidence.Automaton.{Automaton}
use Rattle.cert_model.specs.EvidenceView.{transition_view, automaton_view}
use Rattle.automata.specs.Growth.{AreTransitionsMany, IsGrowthOf}
use Rattle.automaton_grow.specs.Growing.{IsAskedAt, IsAskedBelow, IsAdded, IsPartial}
use Rattle.automaton_grow.specs.declared.GrowError.{GrowError}
use Rattle.automaton_grow.specs.declared.GrowError.TheVariants.{TooWide, TooManyStates, TooManyTransitions, NoMemory}

-- the transition from states 0 to the state 0 under one of the first k symbols
pub record IsForSymbol (arities : Signature) (k : ℕ) (d : evidence.Transition) : Type 0 where
  pub symbol : ℕ
  pub arity : ℕ
  pub below : symbol < k
  pub has : slice_get arities symbol ≡ Some arity
  pub same : d ≡ record { symbol = Some symbol; arguments = replicate arity 0; target = 0 }

-- one of those, the one for variables, or one of some others
abbrev pub IsBasicOf : Signature → List evidence.Transition → evidence.Transition → Type 0
IsBasicOf arities inside d = IsForSymbol arities (length arities) d ⊎ ((d ≡ record { symbol = None; arguments = []; target = 0 }) ⊎ Contains inside d)

-- the rule asks for the transition at one of these rows, a choice with a state that the left side reaches by it
pub record IsAskedByRows (n : ℕ) (r : Rule) (ds : List evidence.Transition) (rows : List (List ℕ × ℕ)) (d : evidence.Transition) : Type 0 where
  pub choice : List ℕ
  pub state : ℕ
  pub row : Contains rows (choice, state)
  pub asked : IsAskedAt n r ds choice state d

-- a set as growth has it, or there are too many transitions
abbrev pub PartialAnswers : System → Term → Result (Vec Transition Global) GrowError → Type 0
PartialAnswers sys s (Ok ds) = IsPartial sys s (map transition_view ds.items)
PartialAnswers sys s (Err (TooWide rule)) = ⊥
PartialAnswers sys s (Err TooManyStates) = ⊥
PartialAnswers sys s (Err TooManyTransitions) = AreTransitionsMany sys s
PartialAnswers sys s (Err NoMemory) = Unit {0}

-- what all rules ask for is added, or there are too many transitions
abbrev pub RoundAnswers : System → Term → List evidence.Transition → Result (Vec Transition Global) GrowError → Type 0
RoundAnswers sys s ds (Ok es) = IsAdded (IsAskedBelow sys s (length sys.rules) ds) ds (map transition_view es.items) × IsPartial sys s (map transition_view es.items)
RoundAnswers sys s ds (Err (TooWide rule)) = ⊥
RoundAnswers sys s ds (Err TooManyStates) = ⊥
RoundAnswers sys s ds (Err TooManyTransitions) = AreTransitionsMany sys s
RoundAnswers sys s ds (Err NoMemory) = Unit {0}

-- the automaton that grows from the term, with not too many transitions, or there are too many
abbrev pub GrownAnswers : System → Term → Result Automaton GrowError → Type 0
GrownAnswers sys s (Ok a) = IsGrowthOf sys s (automaton_view a) × (length (automaton_view a).transitions ≤ MOST_GROWN_TRANSITIONS)
GrownAnswers sys s (Err (TooWide rule)) = ⊥
GrownAnswers sys s (Err TooManyStates) = ⊥
GrownAnswers sys s (Err TooManyTransitions) = AreTransitionsMany sys s
GrownAnswers sys s (Err NoMemory) = Unit {0}
