-- What judging a part of a term answers, all of whose variables are odd numbers.
use Rattle.std.specs.Prelude.{List, Result, Ok, Err}
use Rattle.rewriting.specs.Terms as math
use Rattle.rewriting.specs.Rules.{System}
use Rattle.unifier_run.specs.Run.{Binding, unifier, too_large}
use Rattle.unifier_run.specs.Irreducible.{DoAllClash, IsFirstOutcome, IsFirstRule, DoRulesClash}
use Rattle.term_core.specs.declared.terms.NoMemory.{NoMemory}
use Rattle.irreducible.specs.declared.Irreducible.{Irreducible}
use Rattle.irreducible.specs.declared.Irreducible.TheVariants.{Yes, No, TooLarge}

abbrev pub RootAnswers : System → math.Term → Result Irreducible NoMemory → Type 0
RootAnswers sys t (Ok Yes) = DoRulesClash sys t
RootAnswers sys t (Ok No) = (b : List Binding) × IsFirstRule sys t (unifier b)
RootAnswers sys t (Ok TooLarge) = IsFirstRule sys t too_large
RootAnswers sys t (Err e) = Unit {0}

abbrev pub JudgeAnswers : System → math.Term → Result Irreducible NoMemory → Type 0
JudgeAnswers sys t (Ok Yes) = DoAllClash sys t
JudgeAnswers sys t (Ok No) = (b : List Binding) × IsFirstOutcome sys t (unifier b)
JudgeAnswers sys t (Ok TooLarge) = IsFirstOutcome sys t too_large
JudgeAnswers sys t (Err e) = Unit {0}
