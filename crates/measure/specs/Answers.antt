-- What `shows` answers.
use Rattle.std.specs.Prelude.{Result, Ok, Err}
use Rattle.interpretations.specs.Judgement.{Judgement, good, not_good, unraveling_large}
use Rattle.cert_model.specs.ReasonView.{measure_reason_view}
use Rattle.measure.specs.declared.MeasureError.{MeasureError}
use Rattle.measure.specs.declared.MeasureError.TheVariants.{Reason, Unraveling, NoMemory}

-- the judgement that holds
abbrev pub ShowsAnswers : (Judgement → Type 0) → Result (Unit {0}) MeasureError → Type 0
ShowsAnswers IsJudged (Ok _) = IsJudged good
ShowsAnswers IsJudged (Err (Reason reason)) = IsJudged (not_good (measure_reason_view reason))
ShowsAnswers IsJudged (Err (Unraveling rule)) = IsJudged (unraveling_large rule)
ShowsAnswers IsJudged (Err NoMemory) = Unit {0}
