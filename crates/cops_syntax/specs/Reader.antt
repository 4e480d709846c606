-- What a reader of words answers, for any grammar.
use Rattle.std.specs.Prelude.{◌≡◌, ℕ, List, [], ◌∷◌, ◌++◌, length, Option, Some, None, Result, Ok, Err}
use Rattle.file_text.specs.declared.Token.{Token}
use Rattle.file_text.specs.Tokens.{Spells, IsBadByte, IsLongId, IsOpenComment}
use Rattle.file_text.specs.Grammar.{Word}
use Rattle.file_text.specs.Texts.{words_of, place_of_token}
use Rattle.cops_lex.specs.declared.LexError.{LexError}
use Rattle.cops_lex.specs.declared.LexError.TheVariants as lex
use Rattle.cops_syntax.specs.declared.reader.TextError.{TextError}
use Rattle.cops_syntax.specs.declared.reader.TextError.TheVariants.{BadByte, IdTooLong, CommentNotClosed, Refused, NoMemory}

-- the same cause among those of a reader
abbrev pub error_of : {C : Type 0} → LexError → TextError C
error_of (lex.BadByte at) = BadByte at
error_of (lex.IdTooLong at) = IdTooLong at
error_of (lex.CommentNotClosed at) = CommentNotClosed at
error_of lex.NoMemory = NoMemory

-- The words lead a reader from its start to a state, step by step.
pub data LeadTo {S : Type 0} (start : S) (Steps : S → Word → S → Type 0) : List Word → S → Type 0 where
  at_start : LeadTo start Steps [] start
  one_further : (ws : List Word) (w : Word) (s t : S) → LeadTo start Steps ws s → Steps s w t → LeadTo start Steps (ws ++ w ∷ []) t

-- The word is taken behind these; or it is refused, whatever words follow.
abbrev pub TakeAnswers : {C : Type 0} → (List Word → Type 0) → (List Word → C → ℕ → Type 0) → List Word → Word → Option C → Type 0
TakeAnswers taken refuses ws w None = taken (ws ++ w ∷ [])
TakeAnswers taken refuses ws w (Some cause) = (us : List Word) → refuses (ws ++ w ∷ us) cause (length ws)

-- The words spell the tree, or end too early.
abbrev pub EndAnswers : {T C : Type 0} → (List Word → T → Type 0) → (List Word → C → ℕ → Type 0) → List Word → Result T C → Type 0
EndAnswers spells refuses ws (Ok tree) = spells ws tree
EndAnswers spells refuses ws (Err cause) = refuses ws cause (length ws)

-- the tokens of the text are words that have no tree, from a word at this place on
pub record HasNoTree {C : Type 0} (refuses : List Word → C → ℕ → Type 0) (bytes : List ℕ) (cause : C) (at : ℕ) : Type 0 where
  pub tokens : List Token
  pub spelled : Spells bytes tokens
  pub number : ℕ
  pub refused : refuses (words_of bytes tokens) cause number
  pub place : at ≡ place_of_token bytes tokens number

abbrev pub IsTextError : {C : Type 0} → (List Word → C → ℕ → Type 0) → List ℕ → TextError C → Type 0
IsTextError refuses bytes (BadByte at) = IsBadByte bytes at
IsTextError refuses bytes (IdTooLong at) = IsLongId bytes at
IsTextError refuses bytes (CommentNotClosed at) = IsOpenComment bytes at
IsTextError refuses bytes (Refused cause at) = HasNoTree refuses bytes cause at
IsTextError refuses bytes NoMemory = Unit {0}

-- the tree that the tokens of the text spell, or the one refusal
abbrev pub TextAnswers : {T C : Type 0} → (List Word → T → Type 0) → (List Word → C → ℕ → Type 0) → List ℕ → Result T (TextError C) → Type 0
TextAnswers spells refuses bytes (Ok tree) = (ts : List Token) × Spells bytes ts × spells (words_of bytes ts) tree
TextAnswers spells refuses bytes (Err e) = IsTextError refuses bytes e
