-- The tokens of a text.
use Rattle.std.specs.Prelude.{◌≡◌, ℕ, ◌+◌, ◌-◌, ◌<◌, ◌≤◌, Bool, true, false, List, [], ◌∷◌, length, drop, Option, Some, None, ◌==◌, ◌&&◌, if◌then◌else◌}
use Rattle.file_text.specs.declared.TheConstants.{LONGEST}
use Rattle.file_text.specs.declared.Kind.{Kind}
use Rattle.file_text.specs.declared.Kind.TheVariants.{Id, LeftParen, RightParen, Comma, Bar, Arrow, Equal}
use Rattle.file_text.specs.declared.Token.{Token}
use Rattle.file_text.specs.Bytes.{is_id, begins_arrow, begins_equal, white_len, run_len, begins_comment, comment_len}

-- the kind of token that these bytes begin with
abbrev pub kind_at : List ℕ → Option Kind
kind_at [] = None
kind_at (b ∷ bs) =
    if b == 40 then Some LeftParen else
    if b == 41 then Some RightParen else
    if b == 44 then Some Comma else
    if b == 124 then Some Bar else
    if begins_arrow (b ∷ bs) then Some Arrow else
    if begins_equal (b ∷ bs) then Some Equal else
    if is_id b then Some Id else None

abbrev pub len_at : Kind → List ℕ → ℕ
len_at Id bytes = run_len bytes
len_at LeftParen bytes = 1
len_at RightParen bytes = 1
len_at Comma bytes = 1
len_at Bar bytes = 1
len_at Arrow bytes = 2
len_at Equal bytes = 2

-- no token is longer
abbrev pub longest : ℕ
longest = LONGEST

-- the count of open brackets behind a token
abbrev pub open_after : ℕ → Kind → ℕ
open_after count Id = count
open_after count LeftParen = count + 1
open_after count RightParen = count - 1
open_after count Comma = count
open_after count Bar = count
open_after count Arrow = count
open_after count Equal = count

-- a comment begins at the front, where so many brackets are open
abbrev pub is_comment_at : ℕ → List ℕ → Bool
is_comment_at count bytes = (count == 0) && begins_comment bytes

-- the place behind the white space at a place
abbrev pub behind_white : List ℕ → ℕ → ℕ
behind_white bytes at = at + white_len (drop at bytes)

-- The token stands behind the white space at a place, begins no comment, is as long as its kind says, and not too long.
pub record Stands (bytes : List ℕ) (at : ℕ) (count : ℕ) (t : Token) : Type 0 where
  pub begins : t.from ≡ behind_white bytes at
  pub no_comment : is_comment_at count (drop t.from bytes) ≡ false
  pub kind : kind_at (drop t.from bytes) ≡ Some t.kind
  pub ends : t.to ≡ t.from + len_at t.kind (drop t.from bytes)
  pub short : len_at t.kind (drop t.from bytes) ≤ longest

-- A comment stands behind the white space at a place, and ends at another.
pub record StandsComment (bytes : List ℕ) (at : ℕ) (count : ℕ) (to : ℕ) : Type 0 where
  pub begins : is_comment_at count (drop (behind_white bytes at) bytes) ≡ true
  pub len : ℕ
  pub closed : comment_len (drop (behind_white bytes at) bytes) ≡ Some len
  pub ends : to ≡ behind_white bytes at + len

-- a token, or a comment that ends at this place
pub data Piece : Type 0 where
  token : Token → Piece
  comment : ℕ → Piece

abbrev pub tokens_of : List Piece → List Token
tokens_of [] = []
tokens_of (token t ∷ ps) = t ∷ tokens_of ps
tokens_of (comment to ∷ ps) = tokens_of ps

-- from a place on, where so many brackets are open, these pieces stand, with white space before and between them, and the last ends at a place
abbrev pub StandInTurn : List ℕ → ℕ → ℕ → List Piece → ℕ → Type 0
StandInTurn bytes at count [] end = at ≡ end
StandInTurn bytes at count (token t ∷ ps) end = Stands bytes at count t × StandInTurn bytes t.to (open_after count t.kind) ps end
StandInTurn bytes at count (comment to ∷ ps) end = StandsComment bytes at count to × StandInTurn bytes to count ps end

-- the text is these tokens, with white space and comments before, between and behind them
pub record Spells (bytes : List ℕ) (ts : List Token) : Type 0 where
  pub pieces : List Piece
  pub end : ℕ
  pub leads : StandInTurn bytes 0 0 pieces end
  pub whole : behind_white bytes end ≡ length bytes
  pub tokens : tokens_of pieces ≡ ts

-- the count of open brackets behind pieces
abbrev pub opened : ℕ → List Piece → ℕ
opened count [] = count
opened count (token t ∷ ps) = opened (open_after count t.kind) ps
opened count (comment to ∷ ps) = opened count ps

-- This place stands behind some pieces and white space, and so many brackets are open there.
pub record IsReached (bytes : List ℕ) (count : ℕ) (place : ℕ) : Type 0 where
  pub pieces : List Piece
  pub end : ℕ
  pub leads : StandInTurn bytes 0 0 pieces end
  pub behind : place ≡ behind_white bytes end
  pub counted : count ≡ opened 0 pieces

-- a byte stands there that is in no token
abbrev pub IsBadByte : List ℕ → ℕ → Type 0
IsBadByte bytes place = (count : ℕ) × IsReached bytes count place × (place < length bytes) × (kind_at (drop place bytes) ≡ None)

-- an identifier begins there that is too long
abbrev pub IsLongId : List ℕ → ℕ → Type 0
IsLongId bytes place = (count : ℕ) × IsReached bytes count place × (kind_at (drop place bytes) ≡ Some Id) × (longest < run_len (drop place bytes))

-- the text ends there, in a comment that is not closed
abbrev pub IsOpenComment : List ℕ → ℕ → Type 0
IsOpenComment bytes at = (count : ℕ) × (place : ℕ) × IsReached bytes count place × (is_comment_at count (drop place bytes) ≡ true) × (comment_len (drop place bytes) ≡ None) × (at ≡ length bytes)

-- why a text has no tokens
pub data TokenCause : Type 0 where
  bad_byte : TokenCause
  long_id : TokenCause
  open_comment : TokenCause

-- the text has no tokens, for this cause at this place
abbrev pub HasNoTokens : List ℕ → TokenCause → ℕ → Type 0
HasNoTokens bytes bad_byte at = IsBadByte bytes at
HasNoTokens bytes long_id at = IsLongId bytes at
HasNoTokens bytes open_comment at = IsOpenComment bytes at
