-- What a lexer answers.
use Rattle.std.specs.Prelude.{◌≡◌, ℕ, List, Option, Some, None, Result, Ok, Err}
use Rattle.std.specs.Global.{Vec}
use Rattle.file_text.specs.declared.Token.{Token}
use Rattle.file_text.specs.Tokens.{Spells, IsBadByte, IsLongId, IsOpenComment}
use Rattle.cops_lex.specs.declared.LexError.{LexError}
use Rattle.cops_lex.specs.declared.LexError.TheVariants.{BadByte, IdTooLong, CommentNotClosed, NoMemory}
use Rattle.cops_lex.specs.Reading.{Reading, ReadsOn, IsAtEnd, HasRest, IsFront}

-- The place of the byte, or of the identifier, that stands in no token; or the end of a text in a comment.
abbrev pub HasNoTokensAs : List ℕ → LexError → Type 0
HasNoTokensAs bytes (BadByte at) = IsBadByte bytes at
HasNoTokensAs bytes (IdTooLong at) = IsLongId bytes at
HasNoTokensAs bytes (CommentNotClosed at) = IsOpenComment bytes at
HasNoTokensAs bytes NoMemory = ⊥

-- The tokens that the text spells, or why it has none, unless memory was refused.
abbrev pub TokensAnswers : List ℕ → Result (Vec Token) LexError → Type 0
TokensAnswers bytes (Ok v) = Spells bytes v.items
TokensAnswers bytes (Err NoMemory) = Unit {0}
TokensAnswers bytes (Err e) = HasNoTokensAs bytes e

-- A token is read; or all is; or the text has no tokens.
abbrev pub NextAnswers : Reading → Reading → Result (Option Token) LexError → Type 0
NextAnswers old new (Ok (Some t)) = ReadsOn old t new
NextAnswers old new (Ok None) = IsAtEnd old
NextAnswers old new (Err e) = HasNoTokensAs old.bytes e

-- without a token nothing is read
abbrev pub StaysWithout : Reading → Reading → Result (Option Token) LexError → Type 0
StaysWithout old new (Ok (Some t)) = Unit {0}
StaysWithout old new (Ok None) = new ≡ old
StaysWithout old new (Err e) = new ≡ old

-- The rest of the text is tokens, or the text has none.
abbrev pub FinishAnswers : Reading → Result (Unit {0}) LexError → Type 0
FinishAnswers r (Ok _) = HasRest r
FinishAnswers r (Err e) = HasNoTokensAs r.bytes e

-- The place of the next token or of the end, or the text has no tokens.
abbrev pub FrontAnswers : Reading → Result ℕ LexError → Type 0
FrontAnswers r (Ok place) = IsFront r place
FrontAnswers r (Err e) = HasNoTokensAs r.bytes e
