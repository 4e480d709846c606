-- Fronts of choices by which a term may arrive: behind a front any states of the pools are possible at the same time.
use Rattle.std.specs.Prelude.{ℕ, ◌≡◌, ◌<◌, ◌++◌, List, Some, slice_get, AllPairs}
use Rattle.std.specs.List.{AllZip}
use Rattle.rewriting.specs.Prelude.{Term, IsBefore, IsAmong}
use Rattle.automata.specs.Runs.{Reach, ReachBy}
use Rattle.number_sets.specs.Relation.{Relates}
use Rattle.number_sets.specs.declared.rows.NumberRelation.{NumberRelation}
use Rattle.automaton_runs.specs.Counted.{Indexed, Finds}
use Rattle.automaton_runs.specs.Choices.{AreOf}

-- the relation has each of some states with all numbers
abbrev pub IsAnywhere : List ℕ → List ℕ → NumberRelation → Type 0
IsAnywhere all qs r = (q k : ℕ) → IsAmong q qs → IsAmong k all → Relates r q k

-- such a relation for each pool stands last
abbrev pub AreAnywhere : List (List ℕ) → List ℕ → List NumberRelation → List NumberRelation → Type 0
AreAnywhere pools all old new = (made : List NumberRelation) × (new ≡ old ++ made) × AllZip (IsAnywhere all) pools made

-- the relation at a variable's place has the state with the number k
abbrev pub MayHave : List NumberRelation → ℕ → ℕ → ℕ → Type 0
MayHave rs k x q = (r : NumberRelation) × (slice_get rs x ≡ Some r) × Relates r q k

-- the relation has the states that the term reaches by states that its variables may have with one number
abbrev pub MayReach : Indexed → List ℕ → List NumberRelation → Term → NumberRelation → Type 0
MayReach a all rs t r = (q k : ℕ) → IsAmong k all → Reach (Finds a) (MayHave rs k) t q → Relates r q k

-- with other fronts, and states of the pools, the term arrives nowhere
abbrev pub ArePossible : Indexed → Term → List (List ℕ) → List (List ℕ) → List ℕ → Type 0
ArePossible a t fronts pools set = (j q : ℕ) (front cs : List ℕ) → slice_get fronts j ≡ Some front → AreOf pools cs → ReachBy (Finds a) t (front ++ cs) q → IsAmong j set

-- the lists whose numbers are in a set, as they stand
pub record AreChosen (lists : List (List ℕ)) (set : List ℕ) (made : List (List ℕ)) : Type 0 where
  pub among : (list : List ℕ) → IsAmong list made → IsAmong list lists
  pub kept : (j : ℕ) (list : List ℕ) → slice_get lists j ≡ Some list → IsAmong j set → IsAmong list made
  pub ordered : AllPairs IsBefore lists → AllPairs IsBefore made

abbrev pub AreAscending : List (List ℕ) → Type 0
AreAscending pools = (qs : List ℕ) → IsAmong qs pools → AllPairs (λ x y. x < y) qs

-- choices of the first pools, in order; by no others, with states of the other pools, does the term arrive
pub record AreFronts (a : Indexed) (t : Term) (firsts others fronts : List (List ℕ)) : Type 0 where
  pub among : (front : List ℕ) → IsAmong front fronts → AreOf firsts front
  pub complete : (front cs : List ℕ) (q : ℕ) → AreOf firsts front → AreOf others cs → ReachBy (Finds a) t (front ++ cs) q → IsAmong front fronts
  pub ordered : AreAscending firsts → AllPairs IsBefore fronts
