-- What is accepted has what the judgement without a reason has.
use Rattle.std.proofs.Common.{Option, None, Result, Ok, Err, OnOk}
use Rattle.certificates.specs.Reasons.{EvidenceReason}
use Rattle.refuter.specs.Answers.{RefutesAnswers}
use Rattle.refuter.specs.declared.Refusal.{Refusal}

pub accepted : (IsJudged : Option EvidenceReason → Type 0) (P : Type 0) → (IsJudged None → P) → (r : Result (Unit {0}) Refusal) → RefutesAnswers IsJudged r → OnOk r P
accepted IsJudged P f (Ok _) h = f h
accepted IsJudged P f (Err e) h = tt
