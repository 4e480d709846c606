-- A text that is read token by token.
use Rattle.std.specs.Prelude.{◌≡◌, ◌-◌, ◌≤◌, ℕ, false, List, [], ◌∷◌, ◌++◌, length, drop, slice_range}
use Rattle.std.specs.Str.{IsUtf8}
use Rattle.file_text.specs.declared.Kind.TheVariants.{Id}
use Rattle.file_text.specs.declared.Token.{Token}
use Rattle.file_text.specs.Tokens.{is_comment_at, behind_white, Piece, tokens_of, StandInTurn, opened, Spells}

-- a text, the place up to which it is read, and how many brackets are open there
pub record Reading : Type 0 where
  pub bytes : List ℕ
  pub place : ℕ
  pub count : ℕ

abbrev pub reading : List ℕ → ℕ → ℕ → Reading
reading bytes place count = record { bytes = bytes; place = place; count = count }

-- Up to the place the text is these tokens, with white space and comments before and between them.
pub record HasRead (r : Reading) (ts : List Token) : Type 0 where
  pub pieces : List Piece
  pub leads : StandInTurn r.bytes 0 0 pieces r.place
  pub tokens : tokens_of pieces ≡ ts
  pub counted : r.count ≡ opened 0 pieces

-- one token more is read
abbrev pub ReadsOn : Reading → Token → Reading → Type 0
ReadsOn old t new = (ts : List Token) → HasRead old ts → HasRead new (ts ++ t ∷ [])

-- no token follows what is read
abbrev pub HasNoNext : Reading → Type 0
HasNoNext r = (t : Token) (new : Reading) → new.bytes ≡ r.bytes → ReadsOn r t new → ⊥

-- an identifier is text
abbrev pub IsIdText : List ℕ → Token → Type 0
IsIdText bytes t = t.kind ≡ Id → IsUtf8 (slice_range bytes t.from t.to)

-- what is read is all
abbrev pub IsAtEnd : Reading → Type 0
IsAtEnd r = (ts : List Token) → HasRead r ts → Spells r.bytes ts

-- behind what is read the text is some tokens
abbrev pub HasRest : Reading → Type 0
HasRest r = (ts : List Token) → HasRead r ts → (us : List Token) × Spells r.bytes (ts ++ us)

-- how many bytes are not read
abbrev pub left : Reading → ℕ
left r = length r.bytes - r.place

-- Between what is read and a place stand white space and comments alone, and no comment begins there.
pub record IsFront (r : Reading) (place : ℕ) : Type 0 where
  pub behind : ℕ
  pub reads : (ts : List Token) → HasRead r ts → HasRead (reading r.bytes behind r.count) ts
  pub begins : place ≡ behind_white r.bytes behind
  pub no_comment : is_comment_at r.count (drop place r.bytes) ≡ false
  pub onward : r.place ≤ place
  pub within : place ≤ length r.bytes
