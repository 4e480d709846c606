-- What is read, as a lexer goes on.
use Rattle.std.proofs.Common.{◌≡◌, ℕ, ◌+◌, ◌≤◌, Bool, true, List, [], ◌∷◌, ◌++◌, drop, Some, refl, sym, ap, subst, ◌∙◌}
use Rattle.file_text.specs.declared.Kind.{Kind}
use Rattle.file_text.specs.declared.Token.{Token}
use Rattle.file_text.specs.Bytes.{white_len, comment_len}
use Rattle.file_text.specs.Tokens.{kind_at, len_at, longest, open_after, is_comment_at, behind_white, Stands, StandsComment, Piece, token, comment, tokens_of, StandInTurn, opened}
use Rattle.cops_lex.specs.Reading.{Reading, reading, HasRead, IsFront}

leads_token : (bytes : List ℕ) (at count : ℕ) (ps : List Piece) (m : ℕ) (t : Token) → StandInTurn bytes at count ps m → Stands bytes m (opened count ps) t
    → StandInTurn bytes at count (ps ++ token t ∷ []) t.to
leads_token bytes at count [] m t l s = (subst (λ n. Stands bytes n count t) (sym l) s, refl)
leads_token bytes at count (token u ∷ ps) m t l s = (l.0, leads_token bytes u.to (open_after count u.kind) ps m t l.1 s)
leads_token bytes at count (comment to ∷ ps) m t l s = (l.0, leads_token bytes to count ps m t l.1 s)

leads_comment : (bytes : List ℕ) (at count : ℕ) (ps : List Piece) (m to : ℕ) → StandInTurn bytes at count ps m → StandsComment bytes m (opened count ps) to
    → StandInTurn bytes at count (ps ++ comment to ∷ []) to
leads_comment bytes at count [] m to l s = (subst (λ n. StandsComment bytes n count to) (sym l) s, refl)
leads_comment bytes at count (token u ∷ ps) m to l s = (l.0, leads_comment bytes u.to (open_after count u.kind) ps m to l.1 s)
leads_comment bytes at count (comment k ∷ ps) m to l s = (l.0, leads_comment bytes k count ps m to l.1 s)

tokens_token : (ps : List Piece) (t : Token) → tokens_of (ps ++ token t ∷ []) ≡ tokens_of ps ++ t ∷ []
tokens_token [] t = refl
tokens_token (token u ∷ ps) t = ap (λ us. u ∷ us) (tokens_token ps t)
tokens_token (comment k ∷ ps) t = tokens_token ps t

tokens_comment : (ps : List Piece) (to : ℕ) → tokens_of (ps ++ comment to ∷ []) ≡ tokens_of ps
tokens_comment [] to = refl
tokens_comment (token u ∷ ps) to = ap (λ us. u ∷ us) (tokens_comment ps to)
tokens_comment (comment k ∷ ps) to = tokens_comment ps to

opened_token : (count : ℕ) (ps : List Piece) (t : Token) → opened count (ps ++ token t ∷ []) ≡ open_after (opened count ps) t.kind
opened_token count [] t = refl
opened_token count (token u ∷ ps) t = opened_token (open_after count u.kind) ps t
opened_token count (comment k ∷ ps) t = opened_token count ps t

opened_comment : (count : ℕ) (ps : List Piece) (to : ℕ) → opened count (ps ++ comment to ∷ []) ≡ opened count ps
opened_comment count [] to = refl
opened_comment count (token u ∷ ps) to = opened_comment (open_after count u.kind) ps to
opened_comment count (comment k ∷ ps) to = opened_comment count ps to

read_token : (bytes : List ℕ) (ts : List Token) (count at : ℕ) (t : Token) → HasRead (reading bytes at count) ts → Stands bytes at count t
    → HasRead (reading bytes t.to (open_after count t.kind)) (ts ++ t ∷ [])
read_token bytes ts count at t h s = record {
  pieces = h.pieces ++ token t ∷ [];
  leads = leads_token bytes 0 0 h.pieces at t h.leads (subst (λ n. Stands bytes at n t) h.counted s);
  tokens = tokens_token h.pieces t ∙ ap (λ us. us ++ t ∷ []) h.tokens;
  counted = ap (λ n. open_after n t.kind) h.counted ∙ sym (opened_token 0 h.pieces t);
}

read_comment : (bytes : List ℕ) (ts : List Token) (count at to : ℕ) → HasRead (reading bytes at count) ts → StandsComment bytes at count to → HasRead (reading bytes to count) ts
read_comment bytes ts count at to h s = record {
  pieces = h.pieces ++ comment to ∷ [];
  leads = leads_comment bytes 0 0 h.pieces at to h.leads (subst (λ n. StandsComment bytes at n to) h.counted s);
  tokens = tokens_comment h.pieces to ∙ h.tokens;
  counted = h.counted ∙ sym (opened_comment 0 h.pieces to);
}

-- the place that is found behind the white space
pub place_is : (bytes behind : List ℕ) (at white : ℕ) → white ≡ white_len behind → behind ≡ drop at bytes → at + white ≡ behind_white bytes at
place_is bytes behind at white w b = ap (λ n. at + n) (w ∙ ap white_len b)

abbrev pub made : Kind → ℕ → ℕ → Token
made k f e = record { kind = k; from = f; to = e }

-- a comment is passed over
pub skip_comment : (bytes rest : List ℕ) (count at from len : ℕ) (test : Bool) → from ≡ behind_white bytes at → rest ≡ drop from bytes
    → test ≡ is_comment_at count rest → test ≡ true → Some len ≡ comment_len rest → (ts : List Token) → HasRead (reading bytes at count) ts → HasRead (reading bytes (from + len) count) ts
skip_comment bytes rest count at from len test place r is begins closed ts h =
    let here : rest ≡ drop (behind_white bytes at) bytes = r ∙ ap (λ n. drop n bytes) place in
    read_comment bytes ts count at (from + len) h (record {
      begins = ap (is_comment_at count) (sym here) ∙ sym is ∙ begins;
      len = len;
      closed = ap comment_len (sym here) ∙ sym closed;
      ends = ap (λ n. n + len) place;
    })

-- the token at the front is read
pub token_read : (r : Reading) (rest : List ℕ) (from len after : ℕ) (k : Kind) → IsFront r from → rest ≡ drop from r.bytes → Some k ≡ kind_at rest → len ≡ len_at k rest → len ≤ longest
    → after ≡ open_after r.count k → (ts : List Token) → HasRead r ts → HasRead (reading r.bytes (from + len) after) (ts ++ made k from (from + len) ∷ [])
token_read r rest from len after k f is kind long short opens ts h =
    let stands : Stands r.bytes f.behind r.count (made k from (from + len)) = record {
      begins = f.begins;
      no_comment = f.no_comment;
      kind = ap kind_at (sym is) ∙ sym kind;
      ends = ap (λ n. from + n) (long ∙ ap (len_at k) is);
      short = subst (λ n. n ≤ longest) (long ∙ ap (len_at k) is) short;
    } in
    subst (λ n. HasRead (reading r.bytes (from + len) n) (ts ++ made k from (from + len) ∷ [])) (sym opens)
    (read_token r.bytes ts r.count f.behind (made k from (from + len)) (f.reads ts h) stands)
