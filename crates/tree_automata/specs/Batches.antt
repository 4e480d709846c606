-- Arrivals of a term by batches of choices, and the first arrival at which a property fails.
use Rattle.std.specs.Prelude.{ℕ, ◌≡◌, ◌<◌, ◌⊎◌, ◌++◌, List, Option, None, Some, slice_get}
use Rattle.rewriting.specs.Prelude.{Term, IsAmong}
use Rattle.automata.specs.Runs.{ReachBy}
use Rattle.automata.specs.Closed.{IsChoice}
use Rattle.number_sets.specs.Relation.{Relates, IsFirstPair}
use Rattle.number_sets.specs.declared.rows.NumberRelation.{NumberRelation}
use Rattle.automaton_runs.specs.Counted.{Indexed, Finds}
use Rattle.automaton_runs.specs.Arrivals.{IsArrivalBefore}
use Rattle.automaton_runs.specs.Choices.{Choices, Batch, Holds, choice_of}
use Rattle.automaton_runs.specs.Reached.{AreWhere}
use Rattle.automaton_runs.specs.declared.runs.Arrival.{Arrival}

-- P holds at the arrivals by the choices of a batch
abbrev pub HoldsIn : Indexed → Term → (List ℕ → ℕ → Type 0) → Batch → Type 0
HoldsIn a t P b = (k q : ℕ) → Holds b k → ReachBy (Finds a) t (choice_of b k) q → P (choice_of b k) q

-- the term arrives at q by a choice of the batch, and P fails there, first among its arrivals by the choices of the batch
pub record IsFailureIn (a : Indexed) (t : Term) (P : List ℕ → ℕ → Type 0) (b : Batch) (cs : List ℕ) (q : ℕ) : Type 0 where
  pub number : ℕ
  pub holds : Holds b number
  pub is : cs ≡ choice_of b number
  pub reached : ReachBy (Finds a) t (choice_of b number) q
  pub fails : P (choice_of b number) q → ⊥
  pub earlier : (k p : ℕ) → Holds b k → ReachBy (Finds a) t (choice_of b k) p → (k < number) ⊎ ((k ≡ number) × (p < q)) → P (choice_of b k) p

abbrev pub FailureInAnswers : Indexed → Term → (List ℕ → ℕ → Type 0) → Batch → Option Arrival → Type 0
FailureInAnswers a t P b None = HoldsIn a t P b
FailureInAnswers a t P b (Some arrival) = IsFailureIn a t P b arrival.choice.items arrival.state

-- the choice with a number and the state, first of a relation that another lacks
pub record IsLackingAt (b : Batch) (left right : NumberRelation) (cs : List ℕ) (q : ℕ) : Type 0 where
  pub number : ℕ
  pub is : cs ≡ choice_of b number
  pub first : IsFirstPair left right q number

abbrev pub LackingAtAnswers : Batch → NumberRelation → NumberRelation → Option Arrival → Type 0
LackingAtAnswers b left right None = (q k : ℕ) → Relates left q k → Relates right q k
LackingAtAnswers b left right (Some arrival) = IsLackingAt b left right arrival.choice.items arrival.state

-- the batch of some choices with a front
abbrev pub batch_at : Choices → List ℕ → Batch
batch_at c front = record { front = front; width = c.width; tails = c.tails }

-- whatever the front, the relation has the states with the numbers of the choices by which P holds
abbrev pub AreWhereAlways : Choices → (List ℕ → ℕ → Type 0) → NumberRelation → Type 0
AreWhereAlways c P r = (front : List ℕ) → IsAmong front c.fronts → AreWhere (batch_at c front) P r

abbrev pub IfAlways : Choices → (List ℕ → ℕ → Type 0) → Option NumberRelation → Type 0
IfAlways c P None = Unit {0}
IfAlways c P (Some r) = AreWhereAlways c P r

-- P holds at all arrivals with the first n fronts
abbrev pub HoldsBelow : Indexed → Term → (List ℕ → ℕ → Type 0) → Choices → ℕ → Type 0
HoldsBelow a t P c n = (j q : ℕ) (front tail : List ℕ) → j < n → slice_get c.fronts j ≡ Some front → IsAmong tail c.tails → ReachBy (Finds a) t (front ++ tail) q → P (front ++ tail) q

-- P holds at all arrivals
abbrev pub HoldsThroughout : Indexed → Term → (List ℕ → ℕ → Type 0) → Type 0
HoldsThroughout a t P = (cs : List ℕ) (q : ℕ) → IsChoice a.automaton.states t cs → ReachBy (Finds a) t cs q → P cs q

-- the term arrives at q by the choice, and P fails there, first among its arrivals
pub record IsFirstFailure (a : Indexed) (t : Term) (P : List ℕ → ℕ → Type 0) (cs : List ℕ) (q : ℕ) : Type 0 where
  pub choice : IsChoice a.automaton.states t cs
  pub reached : ReachBy (Finds a) t cs q
  pub fails : P cs q → ⊥
  pub earlier : (ds : List ℕ) (p : ℕ) → IsChoice a.automaton.states t ds → ReachBy (Finds a) t ds p → IsArrivalBefore (ds, p) (cs, q) → P ds p

abbrev pub FailureAnswers : Indexed → Term → (List ℕ → ℕ → Type 0) → Option Arrival → Type 0
FailureAnswers a t P None = HoldsThroughout a t P
FailureAnswers a t P (Some arrival) = IsFirstFailure a t P arrival.choice.items arrival.state
