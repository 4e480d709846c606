-- Laws of the file text.
use Rattle.std.specs.Prelude.{◌≡◌, ◌≤◌, ◌⊎◌, ℕ, List, length}
use Rattle.file_text.specs.declared.Token.{Token}
use Rattle.file_text.specs.Tokens.{Spells, TokenCause, HasNoTokens}
use Rattle.file_text.specs.Syntax.{FileTree}
use Rattle.file_text.specs.Refusals.{SyntaxCause}
use Rattle.file_text.specs.Texts.{IsText, IsNoText}

abbrev pub OneTokenList : Type 0
OneTokenList = (bytes : List ℕ) (ts us : List Token) → Spells bytes ts → Spells bytes us → ts ≡ us

-- two bad places are one, and have one cause
abbrev pub OneBadPlace : Type 0
OneBadPlace = (bytes : List ℕ) (cause other : TokenCause) (at place : ℕ) → HasNoTokens bytes cause at → HasNoTokens bytes other place → (cause ≡ other) × (at ≡ place)

-- a bad place is in the text, or at its end
abbrev pub BadPlacesAreWithin : Type 0
BadPlacesAreWithin = (bytes : List ℕ) (cause : TokenCause) (at : ℕ) → HasNoTokens bytes cause at → at ≤ length bytes

-- a text of tokens has no bad place
abbrev pub NeverBoth : Type 0
NeverBoth = (bytes : List ℕ) (ts : List Token) (cause : TokenCause) (at : ℕ) → Spells bytes ts → HasNoTokens bytes cause at → ⊥

-- a text has tokens or a bad place
abbrev pub TokensOrRefusal : Type 0
TokensOrRefusal = (bytes : List ℕ) → ((ts : List Token) × Spells bytes ts) ⊎ ((cause : TokenCause) × (at : ℕ) × HasNoTokens bytes cause at)

abbrev pub OneTree : Type 0
OneTree = (bytes : List ℕ) (file other : FileTree) → IsText bytes file → IsText bytes other → file ≡ other

-- two refusals of one text have one cause and one place
abbrev pub OneSyntaxRefusal : Type 0
OneSyntaxRefusal = (bytes : List ℕ) (cause other : SyntaxCause) (at place : ℕ) → IsNoText bytes cause at → IsNoText bytes other place → (cause ≡ other) × (at ≡ place)

-- the place of a refusal is in the text, or at its end
abbrev pub SyntaxRefusalsAreWithin : Type 0
SyntaxRefusalsAreWithin = (bytes : List ℕ) (cause : SyntaxCause) (at : ℕ) → IsNoText bytes cause at → at ≤ length bytes

-- a text that has a tree is not refused
abbrev pub NeverTreeAndRefusal : Type 0
NeverTreeAndRefusal = (bytes : List ℕ) (file : FileTree) (cause : SyntaxCause) (at : ℕ) → IsText bytes file → IsNoText bytes cause at → ⊥

-- a text of tokens has a tree or is refused
abbrev pub TreeOrRefusal : Type 0
TreeOrRefusal = (bytes : List ℕ) (ts : List Token) → Spells bytes ts → ((file : FileTree) × IsText bytes file) ⊎ ((cause : SyntaxCause) × (at : ℕ) × IsNoText bytes cause at)
