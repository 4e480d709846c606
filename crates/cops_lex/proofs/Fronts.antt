-- What stands at a front: what follows from the kind of a token, and that the text ends there, or why it has no tokens.
use Rattle.std.proofs.Common.{◌≡◌, ℕ, ◌<◌, true, List, [], ◌∷◌, ◌++◌, length, drop, Option, Some, None, refl, sym, ap, subst, ◌∙◌, arith, length-drop}
use Rattle.file_text.specs.declared.Kind.{Kind}
use Rattle.file_text.specs.declared.Kind.TheVariants.{Id}
use Rattle.file_text.specs.declared.Token.{Token}
use Rattle.file_text.specs.Bytes.{comment_len}
use Rattle.file_text.specs.Tokens.{kind_at, len_at, longest, is_comment_at, behind_white, StandInTurn, IsReached, IsBadByte, IsLongId, IsOpenComment, TokenCause, bad_byte, long_id, open_comment}
use Rattle.cops_lex.specs.Reading.{Reading, reading, HasRead, HasNoNext, IsAtEnd, IsFront}
use Rattle.file_text.proofs.OneReading.{Last, no_more}
pub use Rattle.file_text.proofs.Fronts.{kind_some, arrow_two, equal_two}
pub use Rattle.file_text.proofs.Names.{id_runs}
use Rattle.file_text.proofs.SomeReading.{long_is_id}

pub front_of : (inside now : Reading) (place : ℕ) → inside ≡ now → IsFront now place → IsFront inside place
front_of inside now place e f = subst (λ (r : Reading). IsFront r place) (sym e) f

pub at_end : (r : Reading) (rest : List ℕ) (from : ℕ) → IsFront r from → rest ≡ drop from r.bytes → length rest ≡ 0 → IsAtEnd r
at_end r rest from f is none ts h =
    let read = f.reads ts h in
    let last : from ≡ length r.bytes = omega (arith, length-drop from r.bytes, f.within, none, ap (λ (bs : List ℕ). length bs) is) in
    record { pieces = read.pieces; end = f.behind; leads = read.leads; whole = sym f.begins ∙ last; tokens = read.tokens }

reached : (r : Reading) (from : ℕ) (ts : List Token) → IsFront r from → HasRead r ts → IsReached r.bytes r.count from
reached r from ts f h =
    let read = f.reads ts h in
    record { pieces = read.pieces; end = f.behind; leads = read.leads; behind = f.begins; counted = read.counted }

pub bad_there : (r : Reading) (rest : List ℕ) (from : ℕ) (ts : List Token) → IsFront r from → HasRead r ts → rest ≡ drop from r.bytes → 0 < length rest → None ≡ kind_at rest → IsBadByte r.bytes from
bad_there r rest from ts f h is some none =
    let inside : from < length r.bytes = omega (arith, length-drop from r.bytes, f.within, some, ap (λ (bs : List ℕ). length bs) is) in
    (r.count, reached r from ts f h, inside, ap kind_at (sym is) ∙ sym none)

pub long_there : (r : Reading) (rest : List ℕ) (from len : ℕ) (k : Kind) (ts : List Token) → IsFront r from → HasRead r ts → rest ≡ drop from r.bytes → Some k ≡ kind_at rest → len ≡ len_at k rest
    → longest < len → IsLongId r.bytes from
long_there r rest from len k ts f h is kind e long =
    let far : longest < len_at k rest = subst (λ n. longest < n) e long in
    let id : k ≡ Id = long_is_id k rest far in (
      r.count,
      reached r from ts f h,
      ap kind_at (sym is) ∙ sym kind ∙ ap (λ (q : Kind). Some q) id,
      subst (λ (bs : List ℕ). longest < len_at Id bs) is (subst (λ (q : Kind). longest < len_at q rest) id far),
    )

pub open_there : (bytes rest : List ℕ) (count at from : ℕ) (ts : List Token) → HasRead (reading bytes at count) ts → from ≡ behind_white bytes at → rest ≡ drop from bytes
    → true ≡ is_comment_at count rest
    → None ≡ comment_len rest → IsOpenComment bytes (length bytes)
open_there bytes rest count at from ts h place is begins none = (
  count,
  from,
  record { pieces = h.pieces; end = at; leads = h.leads; behind = place; counted = h.counted },
  ap (is_comment_at count) (sym is) ∙ sym begins,
  ap comment_len (sym is) ∙ sym none,
  refl,
)

no_next : (r : Reading) (cause : Option TokenCause) (behind at : ℕ) (ts : List Token) → HasRead r ts → HasRead (reading r.bytes behind r.count) ts
    → Last r.bytes cause r.count (behind_white r.bytes behind) at → HasNoNext r
no_next r cause behind at ts h front last t new text on =
    let more = on ts h in
    no_more r.bytes cause at behind new.place front.pieces more.pieces t front.leads (subst (λ n. Last r.bytes cause n (behind_white r.bytes behind) at) front.counted last)
    (subst (λ (bytes : List ℕ). StandInTurn bytes 0 0 more.pieces new.place) text more.leads) (more.tokens ∙ ap (λ (us : List Token). us ++ t ∷ []) (sym front.tokens))

pub none_before_bad : (r : Reading) (from : ℕ) (ts : List Token) → IsFront r from → HasRead r ts → IsBadByte r.bytes from → HasNoNext r
none_before_bad r from ts f h bad = no_next r (Some bad_byte) f.behind from ts h (f.reads ts h) (subst (λ n. Last r.bytes (Some bad_byte) r.count n from) f.begins (bad.2, bad.3, refl))

pub none_before_long : (r : Reading) (from : ℕ) (ts : List Token) → IsFront r from → HasRead r ts → IsLongId r.bytes from → HasNoNext r
none_before_long r from ts f h long = no_next r (Some long_id) f.behind from ts h (f.reads ts h) (subst (λ n. Last r.bytes (Some long_id) r.count n from) f.begins (long.2, long.3, refl))

pub none_before_open : (r : Reading) (rest : List ℕ) (at from : ℕ) (ts : List Token) → HasRead r ts → HasRead (reading r.bytes at r.count) ts
    → from ≡ behind_white r.bytes at → rest ≡ drop from r.bytes
    → true ≡ is_comment_at r.count rest → None ≡ comment_len rest → HasNoNext r
none_before_open r rest at from ts h front place is begins none = no_next r (Some open_comment) at (length r.bytes) ts h front
    (subst (λ n. Last r.bytes (Some open_comment) r.count n (length r.bytes)) place (ap (is_comment_at r.count) (sym is) ∙ sym begins, ap comment_len (sym is) ∙ sym none, refl))
