-- Which syntax tree a text spells, or where and for which cause it spells none.
use Rattle.std.specs.Prelude.{◌≡◌, ℕ, List, map, length, slice_get, slice_range, option_map, unwrap_or}
use Rattle.file_text.specs.declared.Kind.{Kind}
use Rattle.file_text.specs.declared.Kind.TheVariants.{Id, LeftParen, RightParen, Comma, Bar, Arrow, Equal}
use Rattle.file_text.specs.declared.Token.{Token}
use Rattle.file_text.specs.Tokens.{Spells}
use Rattle.file_text.specs.Syntax.{Name, FileTree}
use Rattle.file_text.specs.Grammar.{Word, id, left_paren, right_paren, comma, bar, arrow, equal, SpellTree}
use Rattle.file_text.specs.Refusals.{SyntaxCause, AreRefused}

abbrev pub word_of_kind : Kind → Name → Word
word_of_kind Id name = id name
word_of_kind LeftParen name = left_paren
word_of_kind RightParen name = right_paren
word_of_kind Comma name = comma
word_of_kind Bar name = bar name.at
word_of_kind Arrow name = arrow
word_of_kind Equal name = equal

-- the word that the text has at this token
abbrev pub word_of : List ℕ → Token → Word
word_of bytes t = word_of_kind t.kind record { at = t.from; text = slice_range bytes t.from t.to }

abbrev pub words_of : List ℕ → List Token → List Word
words_of bytes ts = map (word_of bytes) ts

-- the tokens of the text spell this tree
pub record IsText (bytes : List ℕ) (file : FileTree) : Type 0 where
  pub tokens : List Token
  pub spelled : Spells bytes tokens
  pub whole : SpellTree (words_of bytes tokens) file

-- the first byte of a token with this number, or the length of the text
abbrev pub place_of_token : List ℕ → List Token → ℕ → ℕ
place_of_token bytes ts number = unwrap_or (option_map (λ t. t.from) (slice_get ts number)) (length bytes)

-- the tokens of the text spell no tree, for this cause at this place
pub record IsNoText (bytes : List ℕ) (cause : SyntaxCause) (at : ℕ) : Type 0 where
  pub tokens : List Token
  pub spelled : Spells bytes tokens
  pub number : ℕ
  pub refused : AreRefused (words_of bytes tokens) cause number
  pub place : at ≡ place_of_token bytes tokens number
