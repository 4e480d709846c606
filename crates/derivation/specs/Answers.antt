-- What `replay` answers.
use Rattle.std.specs.Prelude.{List, Result, Ok, Err}
use Rattle.rewriting.specs.Terms as math
use Rattle.rewriting.specs.Prelude.{Condition, System, IsOver}
use Rattle.certificates.specs.Prelude.{Derivation, Derives, IsFirstBad, AreConditionsOver, ReachesUnder}
use Rattle.term_core.specs.View.{view}
use Rattle.term_core.specs.declared.terms.Term.{Term}
use Rattle.cert_model.specs.ReasonView.{bad_step_view}
use Rattle.derivation.specs.declared.errors.ReplayError.{ReplayError}
use Rattle.derivation.specs.declared.errors.ReplayError.TheVariants.{Bad, NoMemory}

-- the end of the derivation, or its first bad step
abbrev pub ReplayAnswers : System → List Condition → math.Term → Derivation → Result Term ReplayError → Type 0
ReplayAnswers sys hyps start d (Ok end) = Derives sys hyps start d (view end) × math.Fits (view end)
ReplayAnswers sys hyps start d (Err (Bad bad)) = IsFirstBad sys hyps start d (bad_step_view bad)
ReplayAnswers sys hyps start d (Err NoMemory) = Unit {0}

-- where start and hypotheses are over the symbols, so is the end, and the instances of the start reach its instances
abbrev pub IsSound : System → List Condition → math.Term → math.Term → Type 0
IsSound sys hyps start end =
    IsOver sys.arities start → AreConditionsOver sys.arities hyps → IsOver sys.arities end × ReachesUnder sys hyps start end
