-- What is remembered of an automaton.
use Rattle.std.proofs.Common.{◌≡◌, Option, None, subst, refl}
use Rattle.rewriting.specs.Rules.{Condition, System}
use Rattle.certificates.specs.Prelude.{Automaton, EvidenceReason}
use Rattle.automata.specs.Evidence.{IsClosureJudged, IsConditionJudged, right_side}

-- it is closed
closed_by : (sys : System) (c : Condition) (a : Automaton) (o : Option EvidenceReason) → o ≡ None → IsConditionJudged sys c a o → IsClosureJudged sys a None
closed_by sys c a o none (right_side _ any accepted closed excluded) = closed
closed_by sys c a o none h = absurd cc

pub is_closed : (sys : System) (c : Condition) (a b : Automaton) → a ≡ b → IsConditionJudged sys c a None → IsClosureJudged sys b None
is_closed sys c a b same h = subst (λ x. IsClosureJudged sys x None) same (closed_by sys c a None refl h)
