-- Choices of states for variable occurrences: those of a state of each of some lists, and choices that begin alike.
use Rattle.std.specs.Prelude.{ℕ, ◌≡◌, ◌+◌, ◌<◌, List, [], ◌∷◌, ◌++◌, Vec, map, length, get_or, AllPairs}
use Rattle.std.specs.List.{AllZip}
use Rattle.std.specs.declared.alloc.Global.{Global}
use Rattle.rewriting.specs.Prelude.{Term, IsBefore, variable_occurrences, IsAmong}
use Rattle.automata.specs.Runs.{ReachBy}
use Rattle.automata.specs.Closed.{IsChoice}
use Rattle.automaton_runs.specs.Counted.{Indexed, Finds}

-- lists of numbers as a program has them
abbrev pub as_lists : List (Vec ℕ Global) → List (List ℕ)
as_lists vs = map (λ v. v.items) vs

-- each of some states before each of some lists
abbrev pub before_each : List ℕ → List (List ℕ) → List (List ℕ)
before_each [] lists = []
before_each (q ∷ qs) lists = map (λ cs. q ∷ cs) lists ++ before_each qs lists

-- all choices of a state of each pool, in order
abbrev pub choices_of : List (List ℕ) → List (List ℕ)
choices_of [] = [] ∷ []
choices_of (qs ∷ pools) = before_each qs (choices_of pools)

-- the states are of the pools, each of its own
abbrev pub AreOf : List (List ℕ) → List ℕ → Type 0
AreOf pools cs = AllZip (λ qs c. IsAmong c qs) pools cs

-- ends of choices, all of one length
pub record Tails : Type 0 where
  pub width : ℕ
  pub lists : List (List ℕ)

-- choices that have one of some fronts and one of some tails
pub record Choices : Type 0 where
  pub fronts : List (List ℕ)
  pub width : ℕ
  pub tails : List (List ℕ)

-- those with one front, by the numbers of their tails
pub record Batch : Type 0 where
  pub front : List ℕ
  pub width : ℕ
  pub tails : List (List ℕ)

-- for so many occurrences
abbrev pub occurrences_of : Batch → ℕ
occurrences_of b = length b.front + b.width

-- there is a k-th choice, from 0
abbrev pub Holds : Batch → ℕ → Type 0
Holds b k = k < length b.tails

abbrev pub choice_of : Batch → ℕ → List ℕ
choice_of b k = b.front ++ get_or b.tails k []

-- choices of states for a term's variable occurrences, in order; by no others does it arrive
pub record AreChoices (a : Indexed) (t : Term) (c : Choices) : Type 0 where
  pub long : (front : List ℕ) → IsAmong front c.fronts → length front + c.width ≡ length (variable_occurrences t)
  pub wide : (tail : List ℕ) → IsAmong tail c.tails → length tail ≡ c.width
  pub choices : (front tail : List ℕ) → IsAmong front c.fronts → IsAmong tail c.tails → IsChoice a.automaton.states t (front ++ tail)
  pub complete : (cs : List ℕ) (q : ℕ) → IsChoice a.automaton.states t cs → ReachBy (Finds a) t cs q → (front tail : List ℕ) × IsAmong front c.fronts × IsAmong tail c.tails × (cs ≡ front ++ tail)
  pub fronts_ordered : AllPairs IsBefore c.fronts
  pub tails_ordered : AllPairs IsBefore c.tails
