-- What the check of a certificate answers.
use Rattle.std.specs.Prelude.{◌≡◌, List, Result, Ok, Err}
use Rattle.rewriting.specs.Rules.{System}
use Rattle.certificates.specs.Certificates.{Simplification, Certificate}
use Rattle.cert_model.specs.ReasonView.{rejected_view}
use Rattle.validity.specs.declared.CheckError.{CheckError}
use Rattle.validity.specs.declared.CheckError.TheVariants.{Rejected, NoMemory}
use Rattle.simplifications.specs.Simplifying.{AllSimplify}
use Rattle.valid_certificates.specs.Certificates.{IsValid, IsStepRejected, IsRejected}
use Rattle.cert_check.specs.Kinds.{verdict_of}
use Rattle.cert_check.specs.declared.Verdict.{Verdict}
use Rattle.cert_check.specs.declared.Verdict.TheVariants.{Yes, No}

-- a certificate shows what its kind shows where it is valid, else the first reason why it is not
abbrev pub VerdictAnswers : System → Certificate → Result Verdict CheckError → Type 0
VerdictAnswers sys c (Ok verdict) = (verdict ≡ verdict_of c) × IsValid sys c
VerdictAnswers sys c (Err (Rejected reason)) = IsRejected sys c (rejected_view reason)
VerdictAnswers sys c (Err NoMemory) = Unit {0}

-- the system that the steps leave, or that a first one fails, and why
abbrev pub StepsAnswer : System → List Simplification → Result System CheckError → Type 0
StepsAnswer sys steps (Ok last) = AllSimplify sys steps last
StepsAnswer sys steps (Err (Rejected reason)) = IsStepRejected sys steps (rejected_view reason)
StepsAnswer sys steps (Err NoMemory) = Unit {0}

-- the fact holds where the answer is that the system is confluent
abbrev pub OnYes : {E : Type 0} → Result Verdict E → Type 0 → Type 0
OnYes (Ok Yes) P = P
OnYes (Ok No) P = Unit {0}
OnYes (Err e) P = Unit {0}

-- the fact holds where the answer is that the system is not confluent
abbrev pub OnNo : {E : Type 0} → Result Verdict E → Type 0 → Type 0
OnNo (Ok Yes) P = Unit {0}
OnNo (Ok No) P = P
OnNo (Err e) P = Unit {0}
