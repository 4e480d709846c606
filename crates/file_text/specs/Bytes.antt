-- White space, identifiers, the two signs of two bytes, and comments.
use Rattle.std.specs.Prelude.{ℕ, suc, ◌+◌, ◌-◌, Bool, false, List, [], ◌∷◌, take, drop, Option, Some, None, ◌&&◌, ◌||◌, not, ◌==◌, nat_lt, if◌then◌else◌, codes}
use Rattle.std.specs.Option.{option_map}
use Rattle.std.specs.Str.{bytes_eq}

abbrev pub is_white : ℕ → Bool
is_white b = (b == 9) || (b == 10) || (b == 13) || (b == 32)

-- printable, and none of ( ) , | " \
abbrev pub is_id : ℕ → Bool
is_id b = nat_lt 32 b && nat_lt b 127 && not ((b == 40) || (b == 41) || (b == 44) || (b == 124) || (b == 34) || (b == 92))

-- "->"
abbrev pub begins_arrow : List ℕ → Bool
begins_arrow [] = false
begins_arrow (a ∷ []) = false
begins_arrow (a ∷ b ∷ bs) = (a == 45) && (b == 62)

-- "=="
abbrev pub begins_equal : List ℕ → Bool
begins_equal [] = false
begins_equal (a ∷ []) = false
begins_equal (a ∷ b ∷ bs) = (a == 61) && (b == 61)

-- the longest run of white space at the front
unfoldable pub white_len : List ℕ → ℕ
white_len [] = 0
white_len (b ∷ bs) = if is_white b then suc (white_len bs) else 0

-- the longest run of an identifier at the front, ended also before "->" and before "=="
unfoldable pub run_len : List ℕ → ℕ
run_len [] = 0
run_len (b ∷ bs) = if is_id b && not (begins_arrow (b ∷ bs) || begins_equal (b ∷ bs)) then suc (run_len bs) else 0

-- the identifier at the front is COMMENT
abbrev pub is_comment_word : List ℕ → Bool
is_comment_word bytes = bytes_eq (take (run_len bytes) bytes) (codes "COMMENT")

-- a bracket stands at the front, and behind any white space the identifier COMMENT
abbrev pub begins_comment : List ℕ → Bool
begins_comment [] = false
begins_comment (b ∷ bs) = (b == 40) && is_comment_word (drop (white_len bs) bs)

-- the count of open brackets, a byte later
abbrev pub count_after : ℕ → ℕ → ℕ
count_after count b = if b == 40 then count + 1 else if b == 41 then count - 1 else count

-- how many bytes there are till no bracket is open, if that ever is
unfoldable pub closing_len : ℕ → List ℕ → Option ℕ
closing_len count [] = None
closing_len count (b ∷ bs) = if count_after count b == 0 then Some 1 else option_map (λ n. suc n) (closing_len (count_after count b) bs)

-- how long the comment is that begins at the front: it ends with the bracket that matches its first; None where it is not closed
abbrev pub comment_len : List ℕ → Option ℕ
comment_len bytes = closing_len 0 bytes
