-- How the tokens of a text follow from those of its parts, wherever the text stands.
use Rattle.std.proofs.Common.{◌≡◌, ℕ, suc, ◌+◌, ◌-◌, ◌<◌, ◌≤◌, Bool, true, false, cond, eqb, List, [], ◌∷◌, ◌++◌, map, length, take, drop, slice_range, Some, None, ◌||◌, refl, sym}
use Rattle.std.proofs.Common.{ap, subst, ◌∙◌, arith}
use Rattle.std.specs.Prelude.{codes}
use Rattle.std.specs.Str.{bytes_eq}
use Rattle.std.proofs.Math.Seq.{drop-append_seam, take-append_seam}
use Rattle.std.proofs.lemmas.Bool.{eqb-true, false_from_ne_true, and_right}
use Rattle.std.proofs.lemmas.List.{drop-drop, length-drop, length-append}
use Rattle.std.specs.List.{All}
use Rattle.std.proofs.lemmas.List.Elements.{All-cons}
use Rattle.std.proofs.lemmas.Slice.Eq.{bytes_eq-Decides}
use Rattle.file_text.specs.declared.Kind.{Kind}
use Rattle.file_text.specs.declared.Kind.TheVariants.{Id, LeftParen, RightParen, Comma, Bar, Arrow, Equal}
use Rattle.file_text.specs.declared.Token.{Token}
use Rattle.file_text.specs.Bytes.{is_white, white_len, run_len, is_comment_word, comment_len}
use Rattle.file_text.specs.Tokens.{kind_at, len_at, longest, open_after, is_comment_at, behind_white, Stands, StandsComment, Piece, token, comment, tokens_of, StandInTurn, Spells}
use Rattle.file_text.proofs.OneReading.{begins_with_bracket}
use Rattle.file_text.proofs.Names.{IsName, ends_id, name_ends, name_at, run_is_id}

-- what a token says, wherever it stands
pub record Lexeme : Type 0 where
  pub kind : Kind
  pub text : List ℕ

abbrev pub lexeme : Kind → List ℕ → Lexeme
lexeme k s = record { kind = k; text = s }

abbrev pub lexeme_of : List ℕ → Token → Lexeme
lexeme_of bytes t = lexeme t.kind (slice_range bytes t.from t.to)

abbrev pub lexemes_of : List ℕ → List Token → List Lexeme
lexemes_of bytes ts = map (lexeme_of bytes) ts

-- From a place on, where so many brackets are open, the text is these lexemes.
pub record Continues (bytes : List ℕ) (at : ℕ) (count : ℕ) (ls : List Lexeme) : Type 0 where
  pub pieces : List Piece
  pub end : ℕ
  pub leads : StandInTurn bytes at count pieces end
  pub whole : behind_white bytes end ≡ length bytes
  pub lexemes : lexemes_of bytes (tokens_of pieces) ≡ ls

-- These bytes are what is left of a text from a place on.
pub record IsRest (bytes : List ℕ) (at : ℕ) (rest : List ℕ) : Type 0 where
  pub within : at ≤ length bytes
  pub left : drop at bytes ≡ rest

-- at the end of any text, where so many brackets are open before, these bytes are these lexemes
abbrev pub Reads : ℕ → List ℕ → List Lexeme → Type 0
Reads count rest ls = (bytes : List ℕ) (at : ℕ) → IsRest bytes at rest → Continues bytes at count ls

rest_behind : (bytes : List ℕ) (at : ℕ) (front rest : List ℕ) → IsRest bytes at (front ++ rest) → IsRest bytes (at + length front) rest
rest_behind bytes at front rest h = record {
  within = omega (arith, h.within, length-drop at bytes, ap (λ (bs : List ℕ). length bs) h.left, length-append front rest);
  left = sym (drop-drop (length front) at bytes) ∙ ap (drop (length front)) h.left ∙ drop-append_seam front rest;
}

white_here : (bytes : List ℕ) (at : ℕ) (rest : List ℕ) → IsRest bytes at rest → behind_white bytes at ≡ at + white_len rest
white_here bytes at rest h = ap (λ (bs : List ℕ). at + white_len bs) h.left

slice_here : (bytes : List ℕ) (at : ℕ) (front rest : List ℕ) → IsRest bytes at (front ++ rest) → slice_range bytes at (at + length front) ≡ front
slice_here bytes at front rest h =
    let n : at + length front - at ≡ length front = omega arith in
    ap (λ (k : ℕ). take k (drop at bytes)) n ∙ ap (take (length front)) h.left ∙ take-append_seam front rest

no_white : white_len [] ≡ 0
unfolding white_len
no_white = refl

white_then : (b : ℕ) (bs : List ℕ) → white_len (b ∷ bs) ≡ cond (is_white b) (suc (white_len bs)) 0
unfolding white_len
white_then b bs = refl

record Led (bytes : List ℕ) (at : ℕ) (count : ℕ) (ps : List Piece) : Type 0 where
  end : ℕ
  leads : StandInTurn bytes at count ps end
  whole : behind_white bytes end ≡ length bytes

-- the white space before a place is white space before its pieces
led_before : (bytes : List ℕ) (at other count : ℕ) (ps : List Piece) → behind_white bytes at ≡ behind_white bytes other → Led bytes other count ps → Led bytes at count ps
led_before bytes at other count [] e l = record { end = at; leads = refl; whole = e ∙ ap (behind_white bytes) l.leads ∙ l.whole }
led_before bytes at other count (token t ∷ ps) e l =
    let s = l.leads.0 in
    record { end = l.end; leads = (record { begins = s.begins ∙ sym e; no_comment = s.no_comment; kind = s.kind; ends = s.ends; short = s.short }, l.leads.1); whole = l.whole }
led_before bytes at other count (comment to ∷ ps) e l =
    let s = l.leads.0 in
    let moved : StandsComment bytes at count to = record {
      begins = subst (λ (n : ℕ). is_comment_at count (drop n bytes) ≡ true) (sym e) s.begins;
      len = s.len;
      closed = subst (λ (n : ℕ). comment_len (drop n bytes) ≡ Some s.len) (sym e) s.closed;
      ends = s.ends ∙ ap (λ (n : ℕ). n + s.len) (sym e);
    } in
    record { end = l.end; leads = (moved, l.leads.1); whole = l.whole }

pub reads_end : (count : ℕ) → Reads count [] []
reads_end count bytes at h = record {
  pieces = [];
  end = at;
  leads = refl;
  whole = white_here bytes at [] h ∙ omega (arith, no_white, h.within, length-drop at bytes, ap (λ (bs : List ℕ). length bs) h.left);
  lexemes = refl;
}

pub reads_white : (count b : ℕ) (rest : List ℕ) (ls : List Lexeme) → is_white b ≡ true → Reads count rest ls → Reads count (b ∷ rest) ls
reads_white count b rest ls w r bytes at h =
    let next = rest_behind bytes at (b ∷ []) rest h in
    let c = r bytes (at + length (b ∷ [])) next in
    let white : white_len (b ∷ rest) ≡ suc (white_len rest) = white_then b rest ∙ ap (λ (x : Bool). cond x (suc (white_len rest)) 0) w in
    let e : behind_white bytes at ≡ behind_white bytes (at + length (b ∷ [])) =
    white_here bytes at (b ∷ rest) h ∙ omega (arith, white) ∙ sym (white_here bytes (at + length (b ∷ [])) rest next) in
    let l = led_before bytes at (at + length (b ∷ [])) count c.pieces e (record { end = c.end; leads = c.leads; whole = c.whole }) in
    record { pieces = c.pieces; end = l.end; leads = l.leads; whole = l.whole; lexemes = c.lexemes }

white_cases : {C : Type 0} (a b c d : Bool) → (a || b || c || d) ≡ true → (a ≡ true → C) → (b ≡ true → C) → (c ≡ true → C) → (d ≡ true → C) → C
white_cases true b c d e f g h k = f refl
white_cases false true c d e f g h k = g refl
white_cases false false true d e f g h k = h refl
white_cases false false false true e f g h k = k refl
white_cases false false false false e f g h k = absurd (let both : false ≡ true = e in cc)

white_as : (b n : ℕ) (bs : List ℕ) → kind_at (n ∷ bs) ≡ None → eqb b n ≡ true → kind_at (b ∷ bs) ≡ None
white_as b n bs none e = subst (λ (m : ℕ). kind_at (m ∷ bs) ≡ None) (sym (eqb-true b n e)) none

white_no_kind : (b : ℕ) (bs : List ℕ) → is_white b ≡ true → kind_at (b ∷ bs) ≡ None
white_no_kind b [] w = white_cases (eqb b 9) (eqb b 10) (eqb b 13) (eqb b 32) w (white_as b 9 [] refl) (white_as b 10 [] refl) (white_as b 13 [] refl) (white_as b 32 [] refl)
white_no_kind b (c ∷ cs) w =
    white_cases (eqb b 9) (eqb b 10) (eqb b 13) (eqb b 32) w (white_as b 9 (c ∷ cs) refl) (white_as b 10 (c ∷ cs) refl) (white_as b 13 (c ∷ cs) refl)
    (white_as b 32 (c ∷ cs) refl)

-- no white space stands before a token's first byte
kind_no_white : (bytes : List ℕ) (k : Kind) → kind_at bytes ≡ Some k → white_len bytes ≡ 0
kind_no_white [] k e = no_white
kind_no_white (b ∷ bs) k e =
    let dark : is_white b ≡ false = false_from_ne_true (is_white b) (λ (w : is_white b ≡ true).
    let both : None ≡ Some k = sym (white_no_kind b bs w) ∙ e in
    cc) in
    white_then b bs ∙ ap (λ (x : Bool). cond x (suc (white_len bs)) 0) dark

-- a token in front of what is read
reads_token : (count : ℕ) (k : Kind) (front rest : List ℕ) (ls : List Lexeme) → kind_at (front ++ rest) ≡ Some k → len_at k (front ++ rest) ≡ length front → length front ≤ longest
    → is_comment_at count (front ++ rest) ≡ false → Reads (open_after count k) rest ls → Reads count (front ++ rest) (lexeme k front ∷ ls)
reads_token count k front rest ls kind len short plain r bytes at h =
    let to = at + length front in
    let t : Token = record { kind = k; from = at; to = to } in
    let c = r bytes to (rest_behind bytes at front rest h) in
    let here : behind_white bytes at ≡ at = white_here bytes at (front ++ rest) h ∙ omega (arith, kind_no_white (front ++ rest) k kind) in
    let long : len_at k (drop at bytes) ≡ length front = ap (len_at k) h.left ∙ len in
    let stands : Stands bytes at count t = record {
      begins = sym here;
      no_comment = ap (is_comment_at count) h.left ∙ plain;
      kind = ap kind_at h.left ∙ kind;
      ends = ap (λ (n : ℕ). at + n) (sym long);
      short = subst (λ (n : ℕ). n ≤ longest) (sym long) short;
    } in
    record {
      pieces = token t ∷ c.pieces;
      end = c.end;
      leads = (stands, c.leads);
      whole = c.whole;
      lexemes = ap (λ (s : List ℕ). lexeme k s ∷ lexemes_of bytes (tokens_of c.pieces)) (slice_here bytes at front rest h) ∙ ap (λ (ms : List Lexeme). lexeme k front ∷ ms) c.lexemes;
    }

other_kind : (count : ℕ) (bytes : List ℕ) (k : Kind) → (Some k ≡ Some LeftParen → ⊥) → kind_at bytes ≡ Some k → is_comment_at count bytes ≡ false
other_kind count bytes k differ kind = false_from_ne_true (is_comment_at count bytes) (λ (h : is_comment_at count bytes ≡ true). differ (sym kind ∙ begins_with_bracket count bytes h))

-- a bracket that begins no comment
pub reads_left_bracket : (count : ℕ) (rest : List ℕ) (ls : List Lexeme) → is_comment_at count (40 ∷ rest) ≡ false → Reads (count + 1) rest ls
    → Reads count (40 ∷ rest) (lexeme LeftParen (40 ∷ []) ∷ ls)
reads_left_bracket count rest ls plain r = reads_token count LeftParen (40 ∷ []) rest ls refl refl (omega arith) plain r

pub reads_right_bracket : (count : ℕ) (rest : List ℕ) (ls : List Lexeme) → Reads (count - 1) rest ls → Reads count (41 ∷ rest) (lexeme RightParen (41 ∷ []) ∷ ls)
reads_right_bracket count rest ls r = reads_token count RightParen (41 ∷ []) rest ls refl refl (omega arith) (other_kind count (41 ∷ rest) RightParen (λ e. cc) refl) r

pub reads_comma : (count : ℕ) (rest : List ℕ) (ls : List Lexeme) → Reads count rest ls → Reads count (44 ∷ rest) (lexeme Comma (44 ∷ []) ∷ ls)
reads_comma count rest ls r = reads_token count Comma (44 ∷ []) rest ls refl refl (omega arith) (other_kind count (44 ∷ rest) Comma (λ e. cc) refl) r

pub reads_bar : (count : ℕ) (rest : List ℕ) (ls : List Lexeme) → Reads count rest ls → Reads count (124 ∷ rest) (lexeme Bar (124 ∷ []) ∷ ls)
reads_bar count rest ls r = reads_token count Bar (124 ∷ []) rest ls refl refl (omega arith) (other_kind count (124 ∷ rest) Bar (λ e. cc) refl) r

pub reads_arrow : (count : ℕ) (rest : List ℕ) (ls : List Lexeme) → Reads count rest ls → Reads count (45 ∷ 62 ∷ rest) (lexeme Arrow (45 ∷ 62 ∷ []) ∷ ls)
reads_arrow count rest ls r = reads_token count Arrow (45 ∷ 62 ∷ []) rest ls refl refl (omega arith) (other_kind count (45 ∷ 62 ∷ rest) Arrow (λ e. cc) refl) r

pub reads_equal : (count : ℕ) (rest : List ℕ) (ls : List Lexeme) → Reads count rest ls → Reads count (61 ∷ 61 ∷ rest) (lexeme Equal (61 ∷ 61 ∷ []) ∷ ls)
reads_equal count rest ls r = reads_token count Equal (61 ∷ 61 ∷ []) rest ls refl refl (omega arith) (other_kind count (61 ∷ 61 ∷ rest) Equal (λ e. cc) refl) r

name_kind : (name rest : List ℕ) → IsName name → ends_id rest ≡ true → kind_at (name ++ rest) ≡ Some Id
name_kind [] rest n e = absurd (omega (arith, n.some))
name_kind (b ∷ bs) rest n e = run_is_id (b ∷ (bs ++ rest)) (length bs) (name_ends (b ∷ bs) rest n.whole e)

-- an identifier, and behind it something that ends it
pub reads_id : (count : ℕ) (name rest : List ℕ) (ls : List Lexeme) → IsName name → ends_id rest ≡ true → Reads count rest ls → Reads count (name ++ rest) (lexeme Id name ∷ ls)
reads_id count name rest ls n e r =
    let kind = name_kind name rest n e in
    reads_token count Id name rest ls kind (name_ends name rest n.whole e) n.short (other_kind count (name ++ rest) Id (λ h. cc) kind) r

-- inside brackets no comment begins
pub inside : (count : ℕ) (bytes : List ℕ) → 0 < count → is_comment_at count bytes ≡ false
inside count bytes some =
    let e : eqb count 0 ≡ false = false_from_ne_true (eqb count 0) (λ (h : eqb count 0 ≡ true). let z = eqb-true count 0 h in omega arith) in
    rw e refl

-- a bracket inside brackets
pub reads_inner_bracket : (count : ℕ) (rest : List ℕ) (ls : List Lexeme) → 0 < count → Reads (count + 1) rest ls → Reads count (40 ∷ rest) (lexeme LeftParen (40 ∷ []) ∷ ls)
reads_inner_bracket count rest ls some r = reads_left_bracket count rest ls (inside count (40 ∷ rest) some) r

-- the bracket that closes the last one
pub reads_closing_bracket : (count : ℕ) (rest : List ℕ) (ls : List Lexeme) → Reads count rest ls → Reads (count + 1) (41 ∷ rest) (lexeme RightParen (41 ∷ []) ∷ ls)
reads_closing_bracket count rest ls r =
    let e : count ≡ count + 1 - 1 = omega arith in
    reads_right_bracket (count + 1) rest ls (subst (λ (n : ℕ). Reads n rest ls) e r)

-- the identifier behind a bracket is another one
pub other_word : (count : ℕ) (name rest : List ℕ) → IsName name → ends_id rest ≡ true → (name ≡ codes "COMMENT" → ⊥) → is_comment_at count (40 ∷ (name ++ rest)) ≡ false
other_word count name rest n e differ =
    let bs : List ℕ = name ++ rest in
    let first : is_comment_word (drop (white_len bs) bs) ≡ is_comment_word bs = ap (λ (k : ℕ). is_comment_word (drop k bs)) (kind_no_white bs Id (name_kind name rest n e)) in
    let run : is_comment_word bs ≡ bytes_eq name (codes "COMMENT") =
    ap (λ (k : ℕ). bytes_eq (take k bs) (codes "COMMENT")) (name_ends name rest n.whole e) ∙ ap (λ (s : List ℕ). bytes_eq s (codes "COMMENT")) (take-append_seam name rest) in
    let other : bytes_eq name (codes "COMMENT") ≡ false = false_from_ne_true (bytes_eq name (codes "COMMENT")) (λ h. differ ((bytes_eq-Decides name (codes "COMMENT")).0 h)) in
    and_right (eqb count 0) (is_comment_word (drop (white_len bs) bs)) (first ∙ run ∙ other)

-- the first bracket of a block, whose word is not COMMENT
pub reads_block : (count : ℕ) (name rest : List ℕ) (ls : List Lexeme) → IsName name → ends_id rest ≡ true → (name ≡ codes "COMMENT" → ⊥) → Reads (count + 1) rest ls
    → Reads count (40 ∷ (name ++ rest)) (lexeme LeftParen (40 ∷ []) ∷ lexeme Id name ∷ ls)
reads_block count name rest ls n e differ r =
    reads_left_bracket count (name ++ rest) (lexeme Id name ∷ ls) (other_word count name rest n e differ) (reads_id (count + 1) name rest ls n e r)

-- What is read from the first byte on is spelled.
pub spelled : (bytes : List ℕ) (ls : List Lexeme) → Reads 0 bytes ls → (ts : List Token) × Spells bytes ts × (lexemes_of bytes ts ≡ ls)
spelled bytes ls r =
    let c = r bytes 0 (record { within = omega arith; left = refl }) in
    (tokens_of c.pieces, record { pieces = c.pieces; end = c.end; leads = c.leads; whole = c.whole; tokens = refl }, c.lexemes)

-- the identifier of a token is a name
abbrev pub IsNamed : List ℕ → Token → Type 0
IsNamed bytes t = t.kind ≡ Id → IsName (slice_range bytes t.from t.to)

stands_named : (bytes : List ℕ) (at count : ℕ) (t : Token) → Stands bytes at count t → IsNamed bytes t
stands_named bytes at count t s is =
    let left = drop t.from bytes in
    let len : len_at t.kind left ≡ run_len left = ap (λ (k : Kind). len_at k left) is in
    let span : t.to - t.from ≡ run_len left = omega (arith, s.ends, len) in
    subst (λ (n : ℕ). IsName (take n left)) (sym span) (name_at left (s.kind ∙ ap (λ (k : Kind). Some k) is) (subst (λ (n : ℕ). n ≤ longest) len s.short))

led_named : (bytes : List ℕ) (at count : ℕ) (ps : List Piece) (end : ℕ) → StandInTurn bytes at count ps end → All (IsNamed bytes) (tokens_of ps)
led_named bytes at count [] end l = λ k d lt. absurd (omega arith)
led_named bytes at count (token t ∷ ps) end l = All-cons (IsNamed bytes) t (tokens_of ps) (stands_named bytes at count t l.0) (led_named bytes t.to (open_after count t.kind) ps end l.1)
led_named bytes at count (comment to ∷ ps) end l = led_named bytes to count ps end l.1

pub spelled_names : (bytes : List ℕ) (ts : List Token) → Spells bytes ts → All (IsNamed bytes) ts
spelled_names bytes ts s = subst (All (IsNamed bytes)) s.tokens (led_named bytes 0 0 s.pieces s.end s.leads)
