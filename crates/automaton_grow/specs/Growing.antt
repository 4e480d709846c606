-- One round of growth: what a set of transitions asks for, and sets of transitions with what was added to them.
use Rattle.std.specs.Prelude.{ℕ, ◌≡◌, ◌⊎◌, ◌<◌, ◌≤◌, nat_eq, if◌then◌else◌, List, [], ◌∷◌, None, Some, Contains, length, replicate, slice_get, Result, Ok, Err}
use Rattle.automata.specs.declared.TheConstants.{MOST_GROWN_TRANSITIONS}
use Rattle.rewriting.specs.Prelude.{IsSorted, Term, var, app, Rule, System, variable_occurrences}
use Rattle.certificates.specs.Evidence.{Transition, Automaton}
use Rattle.automata.specs.Runs.{ReachBy}
use Rattle.automata.specs.Closed.{IsChoice, state_of}
use Rattle.automata.specs.Growth.{inside, grown, first_state, state_count, HasStates, moves, IsAsked, IsTransitionBefore}
use Rattle.automaton_grow.specs.declared.GrowError.{GrowError}
use Rattle.automaton_grow.specs.declared.GrowError.TheVariants.{TooWide, TooManyStates, TooManyTransitions, NoMemory}

-- the twins at q of the transitions to p
abbrev pub twins : ℕ → ℕ → List Transition → List Transition
twins p q [] = []
twins p q (d ∷ ds) = if nat_eq d.target p then (record d { target = q }) ∷ twins p q ds else twins p q ds

-- the same for a right side that is a variable
abbrev pub twins_of : (ℕ → ℕ) → Term → ℕ → List Transition → List Transition
twins_of e (var x) q ds = twins (e x) q ds
twins_of e (app f ts) q ds = []

-- each of the first transitions is one of the others
abbrev pub HasAll : List Transition → List Transition → Type 0
HasAll ds others = (d : Transition) → Contains ds d → Contains others d

-- the transition is asked for by the transitions ds, where the left side reaches q with these states; the rule's first state is n
abbrev pub IsAskedAt : ℕ → Rule → List Transition → List ℕ → ℕ → Transition → Type 0
IsAskedAt n r ds cs q d = Contains (grown (state_of (variable_occurrences r.left) cs) n r.right q) d ⊎ Contains (twins_of (state_of (variable_occurrences r.left) cs) r.right q ds) d

-- the rule asks for the transition, where there are so many states
pub record IsAskedByRule (states n : ℕ) (r : Rule) (ds : List Transition) (d : Transition) : Type 0 where
  pub choice : List ℕ
  pub state : ℕ
  pub is_choice : IsChoice states r.left choice
  pub reached : ReachBy (moves ds) r.left choice state
  pub asked : IsAskedAt n r ds choice state d

-- one of the first k rules does
pub record IsAskedBelow (sys : System) (s : Term) (k : ℕ) (ds : List Transition) (d : Transition) : Type 0 where
  pub number : ℕ
  pub rule : Rule
  pub below : number < k
  pub is_rule : slice_get sys.rules number ≡ Some rule
  pub by_rule : IsAskedByRule (state_count sys s) (first_state sys s number) rule ds d

-- state 0 or the term asks for the transition
pub data IsBasic (sys : System) (s : Term) (d : Transition) : Type 0 where
  for_symbol : (f n : ℕ) → slice_get sys.arities f ≡ Some n → d ≡ record { symbol = Some f; arguments = replicate n 0; target = 0 } → IsBasic sys s d
  for_variables : d ≡ record { symbol = None; arguments = []; target = 0 } → IsBasic sys s d
  for_term : Contains (inside (λ x. 0) 1 s) d → IsBasic sys s d

-- the transitions after are in order, and each is one of those before or is wanted
pub record IsPartOf (wanted : Transition → Type 0) (before after : List Transition) : Type 0 where
  pub only : (d : Transition) → Contains after d → Contains before d ⊎ wanted d
  pub sorted : IsSorted IsTransitionBefore after

-- what is wanted was added, and nothing else; where there are no more than before, nothing was
pub record IsAdded (wanted : Transition → Type 0) (before after : List Transition) : Type 0 where
  pub part : IsPartOf wanted before after
  pub kept : (d : Transition) → Contains before d → Contains after d
  pub every : (d : Transition) → wanted d → Contains after d
  pub more : length before ≤ length after
  pub same : length after ≡ length before → after ≡ before

-- what was wanted is added, or too many transitions were found, of those that are wanted and those before
abbrev pub AddAnswers : (Transition → Type 0) → List Transition → List Transition → Result (Unit {0}) GrowError → Type 0
AddAnswers wanted before after (Ok _) = IsAdded wanted before after × (length after ≤ MOST_GROWN_TRANSITIONS)
AddAnswers wanted before after (Err (TooWide rule)) = ⊥
AddAnswers wanted before after (Err TooManyStates) = ⊥
AddAnswers wanted before after (Err TooManyTransitions) = IsPartOf wanted before after × (MOST_GROWN_TRANSITIONS < length after)
AddAnswers wanted before after (Err NoMemory) = Unit {0}

-- transitions that are all asked for, in order and not too many, with those that state 0 and the term ask for
pub record IsPartial (sys : System) (s : Term) (ds : List Transition) : Type 0 where
  pub asked : (d : Transition) → Contains ds d → IsAsked sys s d
  pub states : (d : Transition) → Contains ds d → HasStates (state_count sys s) d
  pub basic : (d : Transition) → IsBasic sys s d → Contains ds d
  pub sorted : IsSorted IsTransitionBefore ds
  pub few : length ds ≤ MOST_GROWN_TRANSITIONS

-- the automaton's transitions all count
abbrev pub AreAllStates : Automaton → Type 0
AreAllStates a = (d : Transition) → Contains a.transitions d → HasStates a.states d
