-- What `replace` answers.
use Rattle.std.specs.Prelude.{◌≡◌, None, Some, Result, Ok, Err}
use Rattle.rewriting.specs.Terms as math
use Rattle.rewriting.specs.Positions.{Position, replace}
use Rattle.term_core.specs.View.{view}
use Rattle.term_core.specs.declared.terms.Term.{Term}
use Rattle.term_core.specs.declared.terms.TermError.{TermError}
use Rattle.term_core.specs.declared.terms.TermError.TheVariants.{NoPosition, TooLarge, NoMemory}

-- the term with u at the position, of any size
abbrev pub PutAnswers : math.Term → Position → math.Term → Result Term TermError → Type 0
PutAnswers t p u (Ok v) = replace t p u ≡ Some (view v)
PutAnswers t p u (Err NoPosition) = replace t p u ≡ None
PutAnswers t p u (Err TooLarge) = ⊥
PutAnswers t p u (Err NoMemory) = Unit {0}

-- the same, where the result fits
abbrev pub ReplaceAnswers : math.Term → Position → math.Term → Result Term TermError → Type 0
ReplaceAnswers t p u (Ok v) = (replace t p u ≡ Some (view v)) × math.Fits (view v)
ReplaceAnswers t p u (Err NoPosition) = replace t p u ≡ None
ReplaceAnswers t p u (Err TooLarge) = (v : math.Term) × (replace t p u ≡ Some v) × (math.Fits v → ⊥)
ReplaceAnswers t p u (Err NoMemory) = Unit {0}
