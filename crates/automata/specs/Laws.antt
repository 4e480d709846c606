-- Laws of tree automata.
use Rattle.std.specs.Prelude.{ℕ, ◌≡◌, ◌↔◌, List, Option, None, Some}
use Rattle.rewriting.specs.Prelude.{Term, Signature, IsOver, Condition, System, IsWellFormed, Reaches, IsInfeasible}
use Rattle.certificates.specs.Prelude.{Automaton, EvidenceReason}
use Rattle.automata.specs.Runs.{Runs, RunsFrom0}
use Rattle.automata.specs.Closed.{IsClosed, HasOver, AcceptsAll}
use Rattle.automata.specs.Evidence.{IsAccepted, IsExclusionJudged, JudgedByAutomaton}
use Rattle.automata.specs.Growth.{IsGrowthOf}

-- what a term reaches, its reducts reach, where the automaton is closed and its state 0 accepts all
abbrev pub RunsAreKept : Type 0
RunsAreKept = (sys : System) (a : Automaton) (t u : Term) (q : ℕ) → AcceptsAll sys (HasOver sys a) → IsClosed sys a → Runs (Some sys.arities) a t q → Reaches sys t u → Runs (Some sys.arities) a u q

-- with variables at the state 0 a term reaches no more than it does as it stands, where variables have a transition to 0
abbrev pub RunsFrom0AreRuns : Type 0
RunsFrom0AreRuns = (sys : System) (a : Automaton) (t : Term) (q : ℕ) → AcceptsAll sys (HasOver sys a) → RunsFrom0 (Some sys.arities) a t q → Runs (Some sys.arities) a t q

-- a term over the symbols of a signature reaches by their transitions what it reaches by all
pub record AreRunsSame (arities : Signature) (a : Automaton) (t : Term) : Type 0 where
  pub from_0 : (q : ℕ) → RunsFrom0 None a t q ↔ RunsFrom0 (Some arities) a t q
  pub accepted : IsAccepted None a t ↔ IsAccepted (Some arities) a t
  pub excluded : (o : Option EvidenceReason) → IsExclusionJudged None a t o ↔ IsExclusionJudged (Some arities) a t o

abbrev pub SymbolsAreThoseOfTerms : Type 0
SymbolsAreThoseOfTerms = (arities : Signature) (a : Automaton) (t : Term) → IsOver arities t → AreRunsSame arities a t

-- conditions that an automaton judges to be never met are infeasible
abbrev pub AutomataRefute : Type 0
AutomataRefute = (sys : System) (cs : List Condition) (k : ℕ) (a : Automaton) → JudgedByAutomaton sys cs k a None → IsInfeasible sys cs

-- an automaton has one judgement
abbrev pub AutomataHaveOneJudgement : Type 0
AutomataHaveOneJudgement =
    (sys : System) (cs : List Condition) (k : ℕ) (a : Automaton) (o p : Option EvidenceReason) → JudgedByAutomaton sys cs k a o → JudgedByAutomaton sys cs k a p → o ≡ p

abbrev pub AutomataHaveAJudgement : Type 0
AutomataHaveAJudgement = (sys : System) (cs : List Condition) (k : ℕ) (a : Automaton) → (o : Option EvidenceReason) × JudgedByAutomaton sys cs k a o

-- a grown automaton is closed, its state 0 accepts all, and it accepts the term that it grows from
pub record IsWellGrown (sys : System) (s : Term) (a : Automaton) : Type 0 where
  pub closed : IsClosed sys a
  pub accepts_all : AcceptsAll sys (HasOver sys a)
  pub accepts : IsAccepted None a s
  pub accepts_over : IsOver sys.arities s → IsAccepted (Some sys.arities) a s

abbrev pub GrownAutomataAreClosed : Type 0
GrownAutomataAreClosed = (sys : System) (s : Term) (a : Automaton) → IsWellFormed sys → IsGrowthOf sys s a → IsWellGrown sys s a
