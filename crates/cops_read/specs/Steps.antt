-- What the parts of the reader answer: the first refusal in what they read, or what it adds to the tables and means.
use Rattle.std.specs.Prelude.{◌≡◌, ℕ, List, Option, Some}
use Rattle.file_text.specs.Syntax.{Phrase, Phrases}
use Rattle.cops_read.specs.Uses.{Side}
use Rattle.cops_read.specs.Refusals.{MeaningCause, conditions_without_type, too_deep, variable_with_arguments, left_variable, arity_differs, cause_at}
use Rattle.cops_read.specs.Walks as walks
use Rattle.cops_read.specs.Counts.{cause_of_count, most_of}
use Rattle.cops_syntax.specs.declared.reader.TextError.{TextError}
use Rattle.cops_syntax.specs.declared.reader.TextError.TheVariants as text
use Rattle.cops_syntax.specs.declared.blocks.SyntaxRefusal.{SyntaxRefusal}
use Rattle.cops_syntax.specs.declared.blocks.SyntaxRefusal.TheVariants as syntax
use Rattle.cops_read.specs.declared.errors.ReadError.{ReadError}
use Rattle.cops_read.specs.declared.errors.ReadError.TheVariants.{BadByte, IdTooLong, CommentNotClosed, Syntax, UnknownBlock, RepeatedBlock, ConditionTypeOther, MissingRules}
use Rattle.cops_read.specs.declared.errors.ReadError.TheVariants.{ConditionsWithoutType, VariableWithArguments, ArityDiffers, LeftVariable, TooDeep, TooMany, NoMemory}

-- the error tells this refusal, or want of memory
abbrev pub Tells : ReadError → Option (MeaningCause × ℕ) → Type 0
Tells (BadByte at) o = ⊥
Tells (IdTooLong at) o = ⊥
Tells (CommentNotClosed at) o = ⊥
Tells (Syntax at) o = ⊥
Tells (UnknownBlock at) o = ⊥
Tells (RepeatedBlock at) o = ⊥
Tells (ConditionTypeOther at) o = ⊥
Tells (MissingRules at) o = ⊥
Tells (ConditionsWithoutType at) o = o ≡ Some (conditions_without_type, at)
Tells (VariableWithArguments at) o = o ≡ Some (variable_with_arguments, at)
Tells (ArityDiffers at) o = o ≡ Some (arity_differs, at)
Tells (LeftVariable at) o = o ≡ Some (left_variable, at)
Tells (TooDeep at) o = o ≡ Some (too_deep, at)
Tells (TooMany what limit at) o = (o ≡ Some (cause_of_count what, at)) × (limit ≡ most_of what)
Tells NoMemory o = Unit {0}

-- Of the identifiers, those of the block are variables.
module _ (block : List (List ℕ)) where
  abbrev pub term_refusal : List (List ℕ × ℕ) → List (List ℕ) → Side → ℕ → ℕ → ℕ → Phrase → Option (MeaningCause × ℕ)
  term_refusal = walks.term_refusal (cause_at block) block

  abbrev pub terms_refusal : List (List ℕ × ℕ) → List (List ℕ) → Side → ℕ → ℕ → ℕ → Phrases → Option (MeaningCause × ℕ)
  terms_refusal = walks.terms_refusal (cause_at block) block

-- what the refusal of a text is to the reader of its tree
abbrev pub refused_at : SyntaxRefusal → ℕ → ReadError
refused_at syntax.Syntax at = Syntax at
refused_at syntax.UnknownBlock at = UnknownBlock at
refused_at syntax.RepeatedBlock at = RepeatedBlock at
refused_at syntax.ConditionTypeOther at = ConditionTypeOther at
refused_at syntax.MissingRules at = MissingRules at

abbrev pub read_error_of : TextError SyntaxRefusal → ReadError
read_error_of (text.BadByte at) = BadByte at
read_error_of (text.IdTooLong at) = IdTooLong at
read_error_of (text.CommentNotClosed at) = CommentNotClosed at
read_error_of (text.Refused refusal at) = refused_at refusal at
read_error_of text.NoMemory = NoMemory
