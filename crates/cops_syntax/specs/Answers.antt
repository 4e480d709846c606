-- What a reader of a text's tree answers.
use Rattle.std.specs.Prelude.{◌≡◌, ℕ, List, Result, Ok, Err}
use Rattle.file_text.specs.Syntax.{FileTree}
use Rattle.file_text.specs.Tokens.{IsBadByte, IsLongId, IsOpenComment}
use Rattle.file_text.specs.Grammar.{Word, SpellTree}
use Rattle.file_text.specs.Refusals.{AreRefused}
use Rattle.file_text.specs.Texts.{IsText, IsNoText}
use Rattle.cops_syntax.specs.declared.tree.FileText.{FileText}
use Rattle.cops_syntax.specs.declared.blocks.SyntaxRefusal.{SyntaxRefusal}
use Rattle.cops_syntax.specs.declared.reader.TextError.{TextError}
use Rattle.cops_syntax.specs.declared.reader.TextError.TheVariants.{BadByte, IdTooLong, CommentNotClosed, Refused, NoMemory}
use Rattle.cops_syntax.specs.View.{IsFileText}
use Rattle.cops_syntax.specs.States.{cause_of}
use Rattle.cops_syntax.specs.Flat as lists
use Rattle.cops_syntax.specs.Reader.{LeadTo}

-- the words lead to these blocks
abbrev pub Follow : List Word → lists.Blocks → Type 0
Follow ws b = LeadTo lists.begin (λ c w d. lists.step_blocks c w ≡ Ok d) ws b

-- the words spell the tree of the file
abbrev pub SpellFile : List Word → FileText → Type 0
SpellFile ws file = (tree : FileTree) × SpellTree ws tree × IsFileText file tree

-- the words spell no file, from the one with this number on
abbrev pub AreRefusedFor : List Word → SyntaxRefusal → ℕ → Type 0
AreRefusedFor ws refusal number = AreRefused ws (cause_of refusal) number

-- why a text has no syntax tree, and where
abbrev pub IsCauseOf : List ℕ → TextError SyntaxRefusal → Type 0
IsCauseOf bytes (BadByte at) = IsBadByte bytes at
IsCauseOf bytes (IdTooLong at) = IsLongId bytes at
IsCauseOf bytes (CommentNotClosed at) = IsOpenComment bytes at
IsCauseOf bytes (Refused refusal at) = IsNoText bytes (cause_of refusal) at
IsCauseOf bytes NoMemory = Unit {0}

-- the tree that the text spells, or the one refusal
abbrev pub TreeAnswers : List ℕ → Result FileText (TextError SyntaxRefusal) → Type 0
TreeAnswers bytes (Ok file) = (tree : FileTree) × IsText bytes tree × IsFileText file tree
TreeAnswers bytes (Err e) = IsCauseOf bytes e
