-- What is judged of one condition.
use Rattle.std.proofs.Common.{Some, None, Result, Ok, Err}
use Rattle.rewriting.specs.Rules.{Condition, System}
use Rattle.certificates.specs.Evidence.{Automaton}
use Rattle.automata.specs.Closed.{HasOver, AcceptsAll}
use Rattle.automata.specs.Evidence.{IsAccepted, IsClosureJudged, IsExclusionJudged, IsConditionJudged, closure_fails, right_side}
use Rattle.refuter.specs.Answers.{RefutesAnswers}
use Rattle.refuter.specs.declared.Refusal.{Refusal}
use Rattle.refuter.specs.declared.Refusal.TheVariants.{Reason, NoMemory}
use Rattle.cert_model.specs.ReasonView.{evidence_reason_view}

module _ (sys : System) (c : Condition) (a : Automaton) (any : AcceptsAll sys (HasOver sys a)) (accepted : IsAccepted (Some sys.arities) a c.left) where
  pub not_closed : (e : Refusal) → RefutesAnswers (IsClosureJudged sys a) (Err e) → RefutesAnswers (IsConditionJudged sys c a) (Err e)
  not_closed (Reason reason) h = closure_fails (evidence_reason_view reason) any accepted h
  not_closed NoMemory h = tt

  pub judged_right : (r : Result (Unit {0}) Refusal) → IsClosureJudged sys a None → RefutesAnswers (IsExclusionJudged (Some sys.arities) a c.right) r → RefutesAnswers (IsConditionJudged sys c a) r
  judged_right (Ok u) closed h = right_side None any accepted closed h
  judged_right (Err (Reason reason)) closed h = right_side (Some (evidence_reason_view reason)) any accepted closed h
  judged_right (Err NoMemory) closed h = tt
