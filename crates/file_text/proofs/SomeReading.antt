-- Each text has tokens or a bad place.
use Rattle.std.proofs.Common.{◌≡◌, ◌⊎◌, ℕ, zero, suc, ◌+◌, ◌<◌, ◌≤◌, Bool, true, false, cond, eqb, leb, List, [], ◌∷◌, length, drop, Option, Some, None, option_map, refl, ap}
use Rattle.std.proofs.Common.{subst, ◌∙◌, inl, inr, arith}
use Rattle.std.proofs.lemmas.List.{length-drop}
use Rattle.std.proofs.lemmas.Bool.{eqb-true, eqb-false, leb-true, leb-false}
use Rattle.file_text.specs.declared.Kind.{Kind}
use Rattle.file_text.specs.declared.Kind.TheVariants.{Id}
use Rattle.file_text.specs.declared.Token.{Token}
use Rattle.file_text.specs.Bytes.{is_white, white_len, count_after, closing_len, comment_len}
use Rattle.file_text.specs.Tokens.{kind_at, len_at, longest, open_after, is_comment_at, behind_white, Stands, StandsComment, Piece, token, comment, tokens_of, StandInTurn, opened}
use Rattle.file_text.specs.Tokens.{Spells, IsReached, TokenCause, bad_byte, long_id, open_comment, HasNoTokens}
use Rattle.file_text.proofs.OneReading.{Last}
use Rattle.file_text.proofs.Fronts.{kind_fits}

white_within : (bytes : List ℕ) → white_len bytes ≤ length bytes
unfolding white_len
white_within [] = omega arith
white_within (b ∷ bs) = go (white_within bs) (is_white b)
  where
    go : white_len bs ≤ length bs → (w : Bool) → cond w (suc (white_len bs)) 0 ≤ length (b ∷ bs)
    go le true = omega arith
    go le false = omega arith

-- how a length that was found lies in the text
abbrev Fits : List ℕ → Option ℕ → Type 0
Fits bytes None = Unit {0}
Fits bytes (Some n) = (0 < n) × (n ≤ length bytes)

closing_fits : (count : ℕ) (bytes : List ℕ) → Fits bytes (closing_len count bytes)
unfolding closing_len
closing_fits count [] = tt
closing_fits count (b ∷ bs) = go (eqb (count_after count b) 0) (closing_len (count_after count b) bs) (closing_fits (count_after count b) bs)
  where
    go : (t : Bool) (o : Option ℕ) → Fits bs o → Fits (b ∷ bs) (cond t (Some 1) (option_map (λ n. suc n) o))
    go true o h = (omega arith, omega arith)
    go false None h = tt
    go false (Some n) h = let le = h.1 in (omega arith, omega arith)

lt_of_le_ne : (m n : ℕ) → m ≤ n → (m ≡ n → ⊥) → m < n
lt_of_le_ne m n le differ = omega arith

-- What stands behind the white space at a place: a token, a comment, or nothing more.
data Front (bytes : List ℕ) (at : ℕ) (count : ℕ) : Type 0 where
  goes : (t : Token) → Stands bytes at count t → at < t.to → t.to ≤ length bytes → Front bytes at count
  skips : (to : ℕ) → StandsComment bytes at count to → at < to → to ≤ length bytes → Front bytes at count
  stops : (cause : Option TokenCause) (place : ℕ) → Last bytes cause count (behind_white bytes at) place → Front bytes at count

-- only an identifier is long
pub long_is_id : (k : Kind) (bytes : List ℕ) → longest < len_at k bytes → k ≡ Id
long_is_id Id bytes lt = refl
long_is_id _ bytes lt = absurd (omega arith)

comment_front : (bytes : List ℕ) (at count : ℕ) → behind_white bytes at ≤ length bytes → is_comment_at count (drop (behind_white bytes at) bytes) ≡ true
    → (o : Option ℕ) → comment_len (drop (behind_white bytes at) bytes) ≡ o → Front bytes at count
comment_front bytes at count le is None e = stops (Some open_comment) (length bytes) (is, e, refl)
comment_front bytes at count le is (Some n) e =
    let left = drop (behind_white bytes at) bytes in
    let fits : Fits left (Some n) = subst (Fits left) e (closing_fits 0 left) in
    let some : 0 < n = fits.0 in
    let within : n ≤ length left = fits.1 in
    let all = length-drop (behind_white bytes at) bytes in
    skips (behind_white bytes at + n) (record { begins = is; len = n; closed = e; ends = refl }) (omega arith) (omega arith)

token_front : (bytes : List ℕ) (at count : ℕ) → behind_white bytes at ≤ length bytes → is_comment_at count (drop (behind_white bytes at) bytes) ≡ false
    → (k : Kind) → kind_at (drop (behind_white bytes at) bytes) ≡ Some k → (b : Bool) → leb (len_at k (drop (behind_white bytes at) bytes)) longest ≡ b → Front bytes at count
token_front bytes at count le plain k e true short =
    let left = drop (behind_white bytes at) bytes in
    let fits = kind_fits left k e in
    let some : 0 < len_at k left = fits.0 in
    let within : len_at k left ≤ length left = fits.1 in
    let all = length-drop (behind_white bytes at) bytes in
    goes (record { kind = k; from = behind_white bytes at; to = behind_white bytes at + len_at k left })
    (record { begins = refl; no_comment = plain; kind = e; ends = refl; short = leb-true (len_at k left) longest short })
    (omega arith) (omega arith)
token_front bytes at count le plain k e false long =
    let left = drop (behind_white bytes at) bytes in
    let lt = leb-false (len_at k left) longest long in
    let id = long_is_id k left lt in
    stops (Some long_id) (behind_white bytes at) (e ∙ ap (λ (j : Kind). Some j) id, subst (λ (j : Kind). longest < len_at j left) id lt, refl)

no_kind_front : (bytes : List ℕ) (at count : ℕ) → behind_white bytes at ≤ length bytes → kind_at (drop (behind_white bytes at) bytes) ≡ None → (b : Bool)
    → eqb (behind_white bytes at) (length bytes) ≡ b → Front bytes at count
no_kind_front bytes at count le e true end = let whole = eqb-true (behind_white bytes at) (length bytes) end in stops None (behind_white bytes at) (whole, refl)
no_kind_front bytes at count le e false end =
    let more = eqb-false (behind_white bytes at) (length bytes) end in
    stops (Some bad_byte) (behind_white bytes at) (lt_of_le_ne (behind_white bytes at) (length bytes) le more, e, refl)

kind_front : (bytes : List ℕ) (at count : ℕ) → behind_white bytes at ≤ length bytes → is_comment_at count (drop (behind_white bytes at) bytes) ≡ false
    → (o : Option Kind) → kind_at (drop (behind_white bytes at) bytes) ≡ o → Front bytes at count
kind_front bytes at count le plain None e = no_kind_front bytes at count le e (eqb (behind_white bytes at) (length bytes)) refl
kind_front bytes at count le plain (Some k) e = token_front bytes at count le plain k e (leb (len_at k (drop (behind_white bytes at) bytes)) longest) refl

tested_front : (bytes : List ℕ) (at count : ℕ) → behind_white bytes at ≤ length bytes → (b : Bool) → is_comment_at count (drop (behind_white bytes at) bytes) ≡ b → Front bytes at count
tested_front bytes at count le true e = comment_front bytes at count le e (comment_len (drop (behind_white bytes at) bytes)) refl
tested_front bytes at count le false e = kind_front bytes at count le e (kind_at (drop (behind_white bytes at) bytes)) refl

front : (bytes : List ℕ) (at count : ℕ) → at ≤ length bytes → Front bytes at count
front bytes at count le =
    let within : behind_white bytes at ≤ length bytes = omega (arith, white_within (drop at bytes), length-drop at bytes) in
    tested_front bytes at count within (is_comment_at count (drop (behind_white bytes at) bytes)) refl

-- from a place on some pieces stand, and then nothing more
record Outcome (bytes : List ℕ) (at : ℕ) (count : ℕ) : Type 0 where
  pieces : List Piece
  end : ℕ
  leads : StandInTurn bytes at count pieces end
  cause : Option TokenCause
  place : ℕ
  last : Last bytes cause (opened count pieces) (behind_white bytes end) place

-- what follows goes on in the same way
abbrev Further : List ℕ → ℕ → Type 0
Further bytes at = (to count : ℕ) → at < to → to ≤ length bytes → Outcome bytes to count

by_front : (bytes : List ℕ) (at count : ℕ) → Further bytes at → Front bytes at count → Outcome bytes at count
by_front bytes at count further (goes t s lt le) =
    let o = further t.to (open_after count t.kind) lt le in
    record { pieces = token t ∷ o.pieces; end = o.end; leads = (s, o.leads); cause = o.cause; place = o.place; last = o.last }
by_front bytes at count further (skips to s lt le) =
    let o = further to count lt le in
    record { pieces = comment to ∷ o.pieces; end = o.end; leads = (s, o.leads); cause = o.cause; place = o.place; last = o.last }
by_front bytes at count further (stops cause place last) = record { pieces = []; end = at; leads = refl; cause = cause; place = place; last = last }

outcome : (fuel : ℕ) (bytes : List ℕ) (at count : ℕ) → at ≤ length bytes → length bytes ≤ at + fuel → Outcome bytes at count
outcome zero bytes at count le enough = by_front bytes at count (λ to n lt most. absurd (omega arith)) (front bytes at count le)
outcome (suc fuel) bytes at count le enough = by_front bytes at count (λ to n lt most. outcome fuel bytes to n most (omega arith)) (front bytes at count le)

reached : (bytes : List ℕ) (ps : List Piece) (end : ℕ) → StandInTurn bytes 0 0 ps end → IsReached bytes (opened 0 ps) (behind_white bytes end)
reached bytes ps end l = record { pieces = ps; end = end; leads = l; behind = refl; counted = refl }

told : (bytes : List ℕ) (cause : Option TokenCause) (place end : ℕ) (ps : List Piece) → StandInTurn bytes 0 0 ps end → Last bytes cause (opened 0 ps) (behind_white bytes end) place
    → ((ts : List Token) × Spells bytes ts) ⊎ ((cause : TokenCause) × (at : ℕ) × HasNoTokens bytes cause at)
told bytes None place end ps l last = inl (tokens_of ps, record { pieces = ps; end = end; leads = l; whole = last.0; tokens = refl })
told bytes (Some bad_byte) place end ps l last = inr (bad_byte, behind_white bytes end, (opened 0 ps, reached bytes ps end l, last.0, last.1))
told bytes (Some long_id) place end ps l last = inr (long_id, behind_white bytes end, (opened 0 ps, reached bytes ps end l, last.0, last.1))
told bytes (Some open_comment) place end ps l last = inr (open_comment, place, (opened 0 ps, behind_white bytes end, reached bytes ps end l, last.0, last.1, last.2))

pub tokens_or_refusal : (bytes : List ℕ) → ((ts : List Token) × Spells bytes ts) ⊎ ((cause : TokenCause) × (at : ℕ) × HasNoTokens bytes cause at)
tokens_or_refusal bytes =
    let o = outcome (length bytes) bytes 0 0 (omega arith) (omega arith) in
    told bytes o.cause o.place o.end o.pieces o.leads o.last
