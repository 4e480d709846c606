-- When evidence that conditions are never met is valid, and why it is not.
use Rattle.std.specs.Prelude.{List, Option}
use Rattle.rewriting.specs.Rules.{Condition, System}
use Rattle.certificates.specs.Prelude.{InfeasibilityEvidence, by_caps, by_automaton, EvidenceReason}
use Rattle.caps.specs.Evidence.{JudgedByCaps}
use Rattle.automata.specs.Evidence.{JudgedByAutomaton}

-- the evidence is judged: with no reason, it is valid; else the first reason why it is not
abbrev pub IsInfeasibilityJudged : System → List Condition → InfeasibilityEvidence → Option EvidenceReason → Type 0
IsInfeasibilityJudged sys cs by_caps o = JudgedByCaps sys cs o
IsInfeasibilityJudged sys cs (by_automaton k a) o = JudgedByAutomaton sys cs k a o
