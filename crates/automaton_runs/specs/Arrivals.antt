-- The arrivals of a term: choices of states for its variable occurrences, each with a state that the term reaches by it.
use Rattle.std.specs.Prelude.{ℕ, ◌≡◌, ◌<◌, ◌⊎◌, ◌++◌, List, Some, slice_get, Contains}
use Rattle.std.specs.List.{AllPairs}
use Rattle.rewriting.specs.Prelude.{Term, IsBefore, IsAmong}
use Rattle.automata.specs.Runs.{ReachBy}
use Rattle.automata.specs.Closed.{IsChoice}
use Rattle.automaton_runs.specs.Counted.{Indexed, Finds}
use Rattle.automaton_runs.specs.Choices.{Choices, Batch, Holds, choice_of}
use Rattle.automaton_runs.specs.declared.runs.Arrival.{Arrival}

-- the choice and the state
abbrev pub arrival_view : Arrival → List ℕ × ℕ
arrival_view a = (a.choice.items, a.state)

-- in order by the choice, then the state
abbrev pub IsArrivalBefore : List ℕ × ℕ → List ℕ × ℕ → Type 0
IsArrivalBefore (cs, p) (ds, q) = IsBefore cs ds ⊎ ((cs ≡ ds) × (p < q))

-- the list has exactly the choices with the states that the term reaches by them, in order
pub record AreArrivals (a : Indexed) (t : Term) (rows : List (List ℕ × ℕ)) : Type 0 where
  pub each : (cs : List ℕ) (q : ℕ) → Contains rows (cs, q) → IsChoice a.automaton.states t cs × ReachBy (Finds a) t cs q
  pub complete : (cs : List ℕ) (q : ℕ) → IsChoice a.automaton.states t cs → ReachBy (Finds a) t cs q → Contains rows (cs, q)
  pub sorted : AllPairs IsArrivalBefore rows

-- the list has exactly the first n choices of a batch with the states that the term reaches by them, in order
pub record AreBatchArrivals (a : Indexed) (t : Term) (b : Batch) (n : ℕ) (rows : List (List ℕ × ℕ)) : Type 0 where
  pub each : (cs : List ℕ) (q : ℕ) → IsAmong (cs, q) rows → (k : ℕ) × (k < n) × Holds b k × (cs ≡ choice_of b k) × ReachBy (Finds a) t cs q
  pub complete : (k q : ℕ) → k < n → Holds b k → ReachBy (Finds a) t (choice_of b k) q → IsAmong (choice_of b k, q) rows
  pub sorted : AllPairs IsArrivalBefore rows

-- those of a batch stand last
abbrev pub HaveBatchArrivals : Indexed → Term → Batch → ℕ → List (List ℕ × ℕ) → List (List ℕ × ℕ) → Type 0
HaveBatchArrivals a t b n old new = (more : List (List ℕ × ℕ)) × (new ≡ old ++ more) × AreBatchArrivals a t b n more

-- the choice has one of the first n fronts and a tail, and the term reaches q by it
pub record IsFrontArrival (a : Indexed) (t : Term) (c : Choices) (n : ℕ) (cs : List ℕ) (q : ℕ) : Type 0 where
  pub number : ℕ
  pub front : List ℕ
  pub tail : List ℕ
  pub low : number < n
  pub is_front : slice_get c.fronts number ≡ Some front
  pub is_tail : IsAmong tail c.tails
  pub is : cs ≡ front ++ tail
  pub reached : ReachBy (Finds a) t cs q

-- the list has exactly those, in order
pub record AreFrontArrivals (a : Indexed) (t : Term) (c : Choices) (n : ℕ) (rows : List (List ℕ × ℕ)) : Type 0 where
  pub each : (cs : List ℕ) (q : ℕ) → IsAmong (cs, q) rows → IsFrontArrival a t c n cs q
  pub complete : (cs : List ℕ) (q : ℕ) → IsFrontArrival a t c n cs q → IsAmong (cs, q) rows
  pub sorted : AllPairs IsArrivalBefore rows
