-- From the syntax tree of a text to what the text spells.
use Rattle.std.proofs.Common.{ℕ, List, Result, Ok, Err}
use Rattle.file_text.specs.Syntax.{FileTree}
use Rattle.file_text.specs.Texts.{IsText}
use Rattle.cops_syntax.specs.Answers.{IsCauseOf}
use Rattle.cops_syntax.specs.declared.reader.TextError.{TextError}
use Rattle.cops_syntax.specs.declared.reader.TextError.TheVariants as text
use Rattle.cops_syntax.specs.declared.blocks.SyntaxRefusal.{SyntaxRefusal}
use Rattle.cops_syntax.specs.declared.blocks.SyntaxRefusal.TheVariants as syntax
use Rattle.rewriting.specs.Rules.{System}
use Rattle.cops_names.specs.NameTable.{NameTable}
use Rattle.cops_read.specs.Refusals.{refusal_of}
use Rattle.cops_read.specs.Answers.{IsRefusedFor, ReadAnswers}
use Rattle.cops_read.specs.Steps.{Tells, read_error_of}
use Rattle.cops_read.specs.RuleSteps.{FileAnswers}
use Rattle.cops_read.specs.declared.errors.ReadError.{ReadError}
use Rattle.cops_read.specs.declared.errors.ReadError.TheVariants.{BadByte, IdTooLong, CommentNotClosed, Syntax, UnknownBlock, RepeatedBlock, ConditionTypeOther, MissingRules}
use Rattle.cops_read.specs.declared.errors.ReadError.TheVariants.{ConditionsWithoutType, VariableWithArguments, ArityDiffers, LeftVariable, TooDeep, TooMany, NoMemory}

-- a text without a tree
pub no_tree : (bytes : List ℕ) (e : TextError SyntaxRefusal) → IsCauseOf bytes e → IsRefusedFor bytes (read_error_of e)
no_tree bytes (text.BadByte at) h = h
no_tree bytes (text.IdTooLong at) h = h
no_tree bytes (text.CommentNotClosed at) h = h
no_tree bytes (text.Refused syntax.Syntax at) h = h
no_tree bytes (text.Refused syntax.UnknownBlock at) h = h
no_tree bytes (text.Refused syntax.RepeatedBlock at) h = h
no_tree bytes (text.Refused syntax.ConditionTypeOther at) h = h
no_tree bytes (text.Refused syntax.MissingRules at) h = h
no_tree bytes text.NoMemory h = tt

-- a tree that means no system
refused : (bytes : List ℕ) (tree : FileTree) (e : ReadError) → IsText bytes tree → Tells e (refusal_of tree) → IsRefusedFor bytes e
refused bytes tree (BadByte at) spelled h = absurd h
refused bytes tree (IdTooLong at) spelled h = absurd h
refused bytes tree (CommentNotClosed at) spelled h = absurd h
refused bytes tree (Syntax at) spelled h = absurd h
refused bytes tree (UnknownBlock at) spelled h = absurd h
refused bytes tree (RepeatedBlock at) spelled h = absurd h
refused bytes tree (ConditionTypeOther at) spelled h = absurd h
refused bytes tree (MissingRules at) spelled h = absurd h
refused bytes tree (ConditionsWithoutType at) spelled h = record { tree = tree; spelled = spelled; refused = h }
refused bytes tree (VariableWithArguments at) spelled h = record { tree = tree; spelled = spelled; refused = h }
refused bytes tree (ArityDiffers at) spelled h = record { tree = tree; spelled = spelled; refused = h }
refused bytes tree (LeftVariable at) spelled h = record { tree = tree; spelled = spelled; refused = h }
refused bytes tree (TooDeep at) spelled h = record { tree = tree; spelled = spelled; refused = h }
refused bytes tree (TooMany what limit at) spelled h = (record { tree = tree; spelled = spelled; refused = h.0 }, h.1)
refused bytes tree NoMemory spelled h = tt

pub read_from : (bytes : List ℕ) (tree : FileTree) (r : Result (System × NameTable) ReadError) → IsText bytes tree → FileAnswers tree r → ReadAnswers bytes r
read_from bytes tree (Ok found) spelled h = record { tree = tree; spelled = spelled; meant = h }
read_from bytes tree (Err e) spelled h = refused bytes tree e spelled h
