-- What the parts of the check answer, in the order of judging.
use Rattle.std.specs.Prelude.{ℕ, Result, Ok, Err}
use Rattle.rewriting.specs.Prelude.{System, IsDeterministic}
use Rattle.interpretations.specs.Judgement.{Judgement, good, not_good, unraveling_large}
use Rattle.certificates.specs.Reasons.{deterministic, Blame, MeasureReason, Rejection, class_fails, not_irreducible, measure_fails, unraveling_large as large_unraveling}
use Rattle.cert_model.specs.ReasonView.{rejected_view}
use Rattle.validity.specs.declared.CheckError.{CheckError}
use Rattle.validity.specs.declared.CheckError.TheVariants.{Rejected, NoMemory}
use Rattle.valid_certificates.specs.Confluence.{IsBlameOf, AreRightSidesIrreducible, IsFirstReducible}

-- deterministic, and the right side of each condition is absolutely irreducible
pub record AreRulesGood (sys : System) : Type 0 where
  pub deterministic : IsDeterministic sys
  pub irreducible : AreRightSidesIrreducible sys

-- the first reason why the rules are not
pub data AreRulesRejected (sys : System) : Rejection → Type 0 where
  class_is_left : (blame : Blame) → IsBlameOf sys deterministic blame → AreRulesRejected sys (class_fails blame)
  side_reduces : (i k : ℕ) → IsDeterministic sys → IsFirstReducible sys i k → AreRulesRejected sys (not_irreducible i k)

-- the rules are judged
abbrev pub RulesAnswers : System → Result (Unit {0}) CheckError → Type 0
RulesAnswers sys (Ok _) = AreRulesGood sys
RulesAnswers sys (Err (Rejected reason)) = AreRulesRejected sys (rejected_view reason)
RulesAnswers sys (Err NoMemory) = Unit {0}

-- why a measure is rejected
pub data IsMeasureRejected (Is : Judgement → Type 0) : Rejection → Type 0 where
  reason_is_told : (why : MeasureReason) → Is (not_good why) → IsMeasureRejected Is (measure_fails why)
  rule_is_large : (i : ℕ) → Is (unraveling_large i) → IsMeasureRejected Is (large_unraveling i)

-- the measure is judged
abbrev pub MeasureAnswers : (Judgement → Type 0) → Result (Unit {0}) CheckError → Type 0
MeasureAnswers Is (Ok _) = Is good
MeasureAnswers Is (Err (Rejected reason)) = IsMeasureRejected Is (rejected_view reason)
MeasureAnswers Is (Err NoMemory) = Unit {0}
