-- What the test for absolutely irreducible terms answers.
use Rattle.std.specs.Prelude.{List, Result, Ok, Err}
use Rattle.rewriting.specs.Terms as math
use Rattle.rewriting.specs.Rules as rules
use Rattle.rewriting.specs.NormalForms.{IsAbsolutelyIrreducible}
use Rattle.unifier_run.specs.Run.{Binding, unifier, too_large}
use Rattle.unifier_run.specs.Irreducible.{DoAllClash, IsFirstOutcome}
use Rattle.term_core.specs.declared.terms.NoMemory.{NoMemory}
use Rattle.irreducible.specs.declared.Irreducible.{Irreducible}
use Rattle.irreducible.specs.declared.Irreducible.TheVariants.{Yes, No, TooLarge}

-- every run ends in a clash, and so the term is absolutely irreducible; or the first run that does not gives a unifier, so
-- that it is not; or that run passes the size
abbrev pub IrreducibleAnswers : rules.System → math.Term → Result Irreducible NoMemory → Type 0
IrreducibleAnswers sys t (Ok Yes) = DoAllClash sys t × IsAbsolutelyIrreducible sys t
IrreducibleAnswers sys t (Ok No) = ((b : List Binding) × IsFirstOutcome sys t (unifier b)) × (IsAbsolutelyIrreducible sys t → ⊥)
IrreducibleAnswers sys t (Ok TooLarge) = IsFirstOutcome sys t too_large
IrreducibleAnswers sys t (Err e) = Unit {0}
