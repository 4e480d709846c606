-- The states that a term reaches by the choices of a batch.
use Rattle.std.specs.Prelude.{ℕ, ◌≡◌, ◌↔◌, List, [], ◌∷◌, Some, filter}
use Rattle.std.specs.List.{AllZip}
use Rattle.rewriting.specs.Prelude.{Term, IsAmong}
use Rattle.certificates.specs.Evidence.{Transition}
use Rattle.automata.specs.Runs.{Reach, at}
use Rattle.automata.specs.Closed.{state_of}
use Rattle.number_sets.specs.Relation.{Relates}
use Rattle.number_sets.specs.declared.rows.NumberRelation.{NumberRelation}
use Rattle.automaton_runs.specs.Counted.{Indexed, Finds}
use Rattle.automaton_runs.specs.Counting.{chosen, first_key}
use Rattle.automaton_runs.specs.Choices.{Batch, Holds, choice_of}

-- the relation has exactly the states with the numbers of the choices of the batch by which P holds
abbrev pub AreWhere : Batch → (List ℕ → ℕ → Type 0) → NumberRelation → Type 0
AreWhere b P r = (q k : ℕ) → Relates r q k ↔ (Holds b k × P (choice_of b k) q)

-- the term reaches the state, its variables having the states of their first names
abbrev pub Reaches : Indexed → List ℕ → Term → List ℕ → ℕ → Type 0
Reaches a names t cs q = Reach (Finds a) (at (state_of names cs)) t q

-- each of some relations relates the state at its place to k
abbrev pub AreRelated : List NumberRelation → List ℕ → ℕ → Type 0
AreRelated rs qs k = AllZip (λ r q. Relates r q k) rs qs

-- k is one of some numbers, where there is no relation that tells it
abbrev pub IsOneOf : List NumberRelation → List ℕ → ℕ → Type 0
IsOneOf [] all k = IsAmong k all
IsOneOf (r ∷ rs) all k = Unit {0}

-- the transition leads by the symbol to q from states that the relations relate to k
pub record Leads (f : ℕ) (all : List ℕ) (rs : List NumberRelation) (t : Transition) (q k : ℕ) : Type 0 where
  pub symbol : t.symbol ≡ Some f
  pub number : IsOneOf rs all k
  pub arguments : AreRelated rs t.arguments k
  pub target : q ≡ t.target

-- one of some transitions does
abbrev pub HaveLeads : ℕ → List ℕ → List NumberRelation → List Transition → ℕ → ℕ → Type 0
HaveLeads f all rs ts q k = (t : Transition) × IsAmong t ts × Leads f all rs t q k

-- one of those among the transitions of the automaton that count and have a first argument related to some number does
abbrev pub HaveLeadsByFirst : Indexed → NumberRelation → ℕ → List ℕ → List NumberRelation → ℕ → ℕ → Type 0
HaveLeadsByFirst a first f all rs q k = (s : ℕ) × (((p : ℕ) × Relates first s p) × HaveLeads f all rs (filter (chosen a.symbols first_key a.automaton.states s) a.automaton.transitions) q k)

-- the symbol leads to q from such states
abbrev pub IsReachedFrom : Indexed → ℕ → List NumberRelation → ℕ → ℕ → Type 0
IsReachedFrom a f rs q k = (qs : List ℕ) × Finds a (Some f) qs q × AreRelated rs qs k
