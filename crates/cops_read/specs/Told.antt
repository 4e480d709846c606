-- An error that tells the first refusal of a part tells that of the whole.
use Rattle.std.specs.Prelude.{◌≡◌, ℕ, Option, Some}
use Rattle.cops_read.specs.Refusals.{MeaningCause}
use Rattle.cops_read.specs.Walks.{GoesOn}
use Rattle.cops_read.specs.Steps.{Tells}
use Rattle.cops_read.specs.declared.errors.ReadError.{ReadError}
use Rattle.cops_read.specs.declared.errors.ReadError.TheVariants.{BadByte, IdTooLong, CommentNotClosed, Syntax, UnknownBlock, RepeatedBlock, ConditionTypeOther, MissingRules}
use Rattle.cops_read.specs.declared.errors.ReadError.TheVariants.{ConditionsWithoutType, VariableWithArguments, ArityDiffers, LeftVariable, TooDeep, TooMany, NoMemory}

tells_as : (o others : Option (MeaningCause × ℕ)) → ((r : MeaningCause × ℕ) → o ≡ Some r → others ≡ Some r) → (e : ReadError) → Tells e o → Tells e others
tells_as o others h (BadByte at) t = t
tells_as o others h (IdTooLong at) t = t
tells_as o others h (CommentNotClosed at) t = t
tells_as o others h (Syntax at) t = t
tells_as o others h (UnknownBlock at) t = t
tells_as o others h (RepeatedBlock at) t = t
tells_as o others h (ConditionTypeOther at) t = t
tells_as o others h (MissingRules at) t = t
tells_as o others h (ConditionsWithoutType at) t = h _ t
tells_as o others h (VariableWithArguments at) t = h _ t
tells_as o others h (ArityDiffers at) t = h _ t
tells_as o others h (LeftVariable at) t = h _ t
tells_as o others h (TooDeep at) t = h _ t
tells_as o others h (TooMany what limit at) t = (h _ t.0, t.1)
tells_as o others h NoMemory t = tt

pub told : GoesOn Tells
told = record { stays = tells_as }
