-- What a step, and `simplify`, answer.
use Rattle.std.specs.Prelude.{List, Result, Ok, Err}
use Rattle.rewriting.specs.Rules.{System}
use Rattle.certificates.specs.Certificates.{Simplification}
use Rattle.cert_model.specs.ReasonView.{simp_reason_view}
use Rattle.simplifications.specs.Simplifying.{Simplifies, IsRefused, AllSimplify, FailsAt}
use Rattle.simplify.specs.Changes.{after, IsChangeOf}
use Rattle.simplify.specs.declared.changes.Change.{Change}
use Rattle.simplify.specs.declared.steps.StepError.{StepError}
use Rattle.simplify.specs.declared.steps.StepError.TheVariants.{Refused, NoMemory as no_memory}
use Rattle.simplify.specs.declared.steps.SimplifyError.{SimplifyError}
use Rattle.simplify.specs.declared.steps.SimplifyError.TheVariants.{Fails, NoMemory}

-- the step is good and makes this change, or it is refused for this reason
abbrev pub StepAnswers : System → Simplification → Result Change StepError → Type 0
StepAnswers sys s (Ok c) = IsChangeOf sys c × Simplifies sys s (after sys c)
StepAnswers sys s (Err (Refused reason)) = IsRefused sys s (simp_reason_view reason)
StepAnswers sys s (Err no_memory) = Unit {0}

-- all steps are good and lead to this system, or this is the first that is refused, and why
abbrev pub SimplifyAnswers : System → List Simplification → Result System SimplifyError → Type 0
SimplifyAnswers sys ss (Ok last) = AllSimplify sys ss last
SimplifyAnswers sys ss (Err (Fails step reason)) = FailsAt sys ss step (simp_reason_view reason)
SimplifyAnswers sys ss (Err NoMemory) = Unit {0}
