-- What `refutes` answers.
use Rattle.std.specs.Prelude.{Option, None, Some, Result, Ok, Err}
use Rattle.certificates.specs.Reasons as math
use Rattle.cert_model.specs.ReasonView.{evidence_reason_view}
use Rattle.refuter.specs.declared.Refusal.{Refusal}
use Rattle.refuter.specs.declared.Refusal.TheVariants.{Reason, NoMemory}

-- the judgement that holds: with no reason, the conditions are refuted
abbrev pub RefutesAnswers : (Option math.EvidenceReason → Type 0) → Result (Unit {0}) Refusal → Type 0
RefutesAnswers IsJudged (Ok _) = IsJudged None
RefutesAnswers IsJudged (Err (Reason reason)) = IsJudged (Some (evidence_reason_view reason))
RefutesAnswers IsJudged (Err NoMemory) = Unit {0}
