-- When an automaton shows that a condition is never met, and why it does not.
use Rattle.std.specs.Prelude.{ℕ, ◌≡◌, ◌⊎◌, List, Option, None, Some}
use Rattle.rewriting.specs.Prelude.{Term, Condition, System}
use Rattle.certificates.specs.Prelude.{Automaton, hypothesis_at, EvidenceReason, auto_number, auto_any, auto_misses, auto_wide, auto_not_closed, auto_wide_right, auto_reaches}
use Rattle.automata.specs.Runs.{Symbols, RunsFrom0, IsAccepting}
use Rattle.automata.specs.Closed.{IsClosed, IsFirstOpen, IsWide, AreNarrow, IsFirstWide, HasOver, AcceptsAll, Excludes}

-- with its variables at the state 0 the term reaches an accepting state
abbrev pub IsAccepted : Symbols → Automaton → Term → Type 0
IsAccepted symbols a t = (q : ℕ) × IsAccepting a q × RunsFrom0 symbols a t q

-- the closure test: no left side is wide, and the automaton is closed; else the first wide left side, or the first right side that is not kept
abbrev pub IsClosureJudged : System → Automaton → Option EvidenceReason → Type 0
IsClosureJudged sys a None = AreNarrow sys a × IsClosed sys a
IsClosureJudged sys a (Some (auto_wide i)) = IsFirstWide sys a i
IsClosureJudged sys a (Some (auto_not_closed i cs q)) = AreNarrow sys a × IsFirstOpen sys a i cs q
IsClosureJudged sys a (Some _) = ⊥

-- the test for the right side: it is not wide, and the automaton excludes it
abbrev pub IsExclusionJudged : Symbols → Automaton → Term → Option EvidenceReason → Type 0
IsExclusionJudged symbols a t None = (IsWide a t → ⊥) × Excludes symbols a t
IsExclusionJudged symbols a t (Some auto_wide_right) = IsWide a t
IsExclusionJudged symbols a t (Some auto_reaches) = (IsWide a t → ⊥) × (Excludes symbols a t → ⊥)
IsExclusionJudged symbols a t (Some _) = ⊥

-- the automaton for one condition: the first reason in this order, or it is valid
pub data IsConditionJudged (sys : System) (c : Condition) (a : Automaton) : Option EvidenceReason → Type 0 where
  not_any : (AcceptsAll sys (HasOver sys a) → ⊥) → IsConditionJudged sys c a (Some auto_any)
  misses : AcceptsAll sys (HasOver sys a) → (IsAccepted (Some sys.arities) a c.left → ⊥) → IsConditionJudged sys c a (Some auto_misses)
  closure_fails : (why : EvidenceReason) → AcceptsAll sys (HasOver sys a) → IsAccepted (Some sys.arities) a c.left → IsClosureJudged sys a (Some why) → IsConditionJudged sys c a (Some why)
  right_side : (o : Option EvidenceReason) → AcceptsAll sys (HasOver sys a) → IsAccepted (Some sys.arities) a c.left → IsClosureJudged sys a None → IsExclusionJudged (Some sys.arities) a c.right o
      → IsConditionJudged sys c a o

-- the automaton for condition k is judged: with no reason, the conditions are never met; else the first reason why that is not shown
abbrev pub JudgedByAutomaton : System → List Condition → ℕ → Automaton → Option EvidenceReason → Type 0
JudgedByAutomaton sys cs k a o =
    ((hypothesis_at cs k ≡ None) × (o ≡ Some auto_number)) ⊎ ((c : Condition) × (hypothesis_at cs k ≡ Some c) × IsConditionJudged sys c a o)
