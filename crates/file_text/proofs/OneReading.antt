-- A text has one list of tokens, or one bad place.
use Rattle.std.proofs.Common.{◌≡◌, ℕ, ◌+◌, ◌<◌, true, false, List, [], ◌∷◌, ◌++◌, length, drop, Option, Some, None, ◌&&◌, eqb, refl, sym, ap, subst, ◌∙◌, arith}
use Rattle.std.proofs.Math.Seq.{drop-length}
use Rattle.std.proofs.lemmas.Bool.{and_parts}
use Rattle.file_text.specs.declared.Kind.{Kind}
use Rattle.file_text.specs.declared.Kind.TheVariants.{Id, LeftParen}
use Rattle.file_text.specs.declared.Token.{Token}
use Rattle.file_text.specs.Bytes.{run_len, is_comment_word, comment_len, white_len}
use Rattle.file_text.specs.Tokens.{kind_at, len_at, longest, open_after, is_comment_at, behind_white, Stands, StandsComment, Piece, token, comment, tokens_of, StandInTurn, opened}
use Rattle.file_text.specs.Tokens.{Spells, IsReached, TokenCause, bad_byte, long_id, open_comment, HasNoTokens}

abbrev some : {A : Type 0} → A → Option A
some x = Some x

some_is : {A : Type 0} (x y : A) → some x ≡ some y → x ≡ y
some_is x y e = cc

-- a comment begins with a bracket
pub begins_with_bracket : (count : ℕ) (bytes : List ℕ) → is_comment_at count bytes ≡ true → kind_at bytes ≡ Some LeftParen
begins_with_bracket count [] e = absurd (let h : false ≡ true = (and_parts (eqb count 0) false e).1 in cc)
begins_with_bracket count (b ∷ bs) e =
    let word = is_comment_word (drop (white_len bs) bs) in
    let h : (eqb b 40) ≡ true = (and_parts (eqb b 40) word (and_parts (eqb count 0) ((eqb b 40) && word) e).1).0 in
    rw h refl

abbrev made : Kind → ℕ → ℕ → Token
made k f e = record { kind = k; from = f; to = e }

same_token : (bytes : List ℕ) (at count : ℕ) (t u : Token) → Stands bytes at count t → Stands bytes at count u → t ≡ u
same_token bytes at count t u s r =
    let from : t.from ≡ u.from = s.begins ∙ sym r.begins in
    let kind : t.kind ≡ u.kind = some_is t.kind u.kind (sym s.kind ∙ ap (λ (n : ℕ). kind_at (drop n bytes)) from ∙ r.kind) in
    let to : t.to ≡ u.to = s.ends ∙ ap (λ (n : ℕ). n + len_at t.kind (drop n bytes)) from ∙ ap (λ (k : Kind). u.from + len_at k (drop u.from bytes)) kind ∙ sym r.ends in
    ap (λ (k : Kind). made k t.from t.to) kind ∙ ap (λ (n : ℕ). made u.kind n t.to) from ∙ ap (made u.kind u.from) to

same_comment : (bytes : List ℕ) (at count to other : ℕ) → StandsComment bytes at count to → StandsComment bytes at count other → to ≡ other
same_comment bytes at count to other s r =
    let len : s.len ≡ r.len = some_is s.len r.len (sym s.closed ∙ r.closed) in
    s.ends ∙ ap (λ (n : ℕ). behind_white bytes at + n) len ∙ sym r.ends

-- a comment is no token
not_both : (bytes : List ℕ) (at count to : ℕ) (t : Token) → Stands bytes at count t → StandsComment bytes at count to → ⊥
not_both bytes at count to t s r =
    let both : false ≡ true = sym s.no_comment ∙ ap (λ (n : ℕ). is_comment_at count (drop n bytes)) s.begins ∙ r.begins in
    cc

-- no token and no comment stands behind the white space at a place
record Stops (bytes : List ℕ) (end : ℕ) (count : ℕ) : Type 0 where
  tokens : (t : Token) → Stands bytes end count t → ⊥
  comments : (to : ℕ) → StandsComment bytes end count to → ⊥

same_end : (bytes : List ℕ) (at count : ℕ) (ps qs : List Piece) (m n : ℕ) → StandInTurn bytes at count ps m → Stops bytes m (opened count ps) → StandInTurn bytes at count qs n
    → Stops bytes n (opened count qs) → (ps ≡ qs) × (m ≡ n)
same_end bytes at count [] [] m n l p r q = (refl, sym l ∙ r)
same_end bytes at count [] (token u ∷ qs) m n l p r q = absurd ((subst (λ (k : ℕ). Stops bytes k count) (sym l) p).tokens u r.0)
same_end bytes at count [] (comment to ∷ qs) m n l p r q = absurd ((subst (λ (k : ℕ). Stops bytes k count) (sym l) p).comments to r.0)
same_end bytes at count (token t ∷ ps) [] m n l p r q = absurd ((subst (λ (k : ℕ). Stops bytes k count) (sym r) q).tokens t l.0)
same_end bytes at count (comment to ∷ ps) [] m n l p r q = absurd ((subst (λ (k : ℕ). Stops bytes k count) (sym r) q).comments to l.0)
same_end bytes at count (token t ∷ ps) (comment to ∷ qs) m n l p r q = absurd (not_both bytes at count to t l.0 r.0)
same_end bytes at count (comment to ∷ ps) (token u ∷ qs) m n l p r q = absurd (not_both bytes at count to u r.0 l.0)
same_end bytes at count (token t ∷ ps) (token u ∷ qs) m n l p r q =
    let same = same_token bytes at count t u l.0 r.0 in
    let others = same_end bytes t.to (open_after count t.kind) ps qs m n l.1 p
    (subst (λ (v : Token). StandInTurn bytes v.to (open_after count v.kind) qs n) (sym same) r.1)
    (subst (λ (v : Token). Stops bytes n (opened (open_after count v.kind) qs)) (sym same) q) in
    (ap (λ (v : Token). token v ∷ ps) same ∙ ap (λ (os : List Piece). token u ∷ os) others.0, others.1)
same_end bytes at count (comment to ∷ ps) (comment other ∷ qs) m n l p r q =
    let same = same_comment bytes at count to other l.0 r.0 in
    let others = same_end bytes to count ps qs m n l.1 p (subst (λ (k : ℕ). StandInTurn bytes k count qs n) (sym same) r.1) q in
    (ap (λ (k : ℕ). comment k ∷ ps) same ∙ ap (λ (os : List Piece). comment other ∷ os) others.0, others.1)

none_stops : (bytes : List ℕ) (end count : ℕ) → kind_at (drop (behind_white bytes end) bytes) ≡ None → Stops bytes end count
none_stops bytes end count none = record {
  tokens = λ t s.
      let both : Some t.kind ≡ None = sym s.kind ∙ ap (λ (k : ℕ). kind_at (drop k bytes)) s.begins ∙ none in
      cc;
  comments = λ to s.
      let both : Some LeftParen ≡ None = sym (begins_with_bracket count (drop (behind_white bytes end) bytes) s.begins) ∙ none in
      cc;
}

long_stops : (bytes : List ℕ) (end count : ℕ) → kind_at (drop (behind_white bytes end) bytes) ≡ Some Id → longest < run_len (drop (behind_white bytes end) bytes) → Stops bytes end count
long_stops bytes end count id long = record {
  tokens = λ t s.
      let kind : t.kind ≡ Id = some_is t.kind Id (sym s.kind ∙ ap (λ (n : ℕ). kind_at (drop n bytes)) s.begins ∙ id) in
      let len : len_at t.kind (drop t.from bytes) ≡ run_len (drop (behind_white bytes end) bytes) = ap (λ (q : Kind). len_at q (drop t.from bytes)) kind
      ∙ ap (λ (n : ℕ). run_len (drop n bytes)) s.begins in
      absurd (omega (arith, s.short, len, long));
  comments = λ to s.
      let both : Some LeftParen ≡ Some Id = sym (begins_with_bracket count (drop (behind_white bytes end) bytes) s.begins) ∙ id in
      cc;
}

comment_stops : (bytes : List ℕ) (end count : ℕ) → is_comment_at count (drop (behind_white bytes end) bytes) ≡ true → comment_len (drop (behind_white bytes end) bytes) ≡ None → Stops bytes end count
comment_stops bytes end count begins none = record {
  tokens = λ t s.
      let both : false ≡ true = sym s.no_comment ∙ ap (λ (n : ℕ). is_comment_at count (drop n bytes)) s.begins ∙ begins in
      cc;
  comments = λ to s.
      let both : Some s.len ≡ None = sym s.closed ∙ none in
      cc;
}

-- What stands at the place behind the pieces, where no piece follows.
abbrev pub Last : List ℕ → Option TokenCause → ℕ → ℕ → ℕ → Type 0
Last bytes None count place at = (place ≡ length bytes) × (at ≡ place)
Last bytes (Some bad_byte) count place at = (place < length bytes) × (kind_at (drop place bytes) ≡ None) × (at ≡ place)
Last bytes (Some long_id) count place at = (kind_at (drop place bytes) ≡ Some Id) × (longest < run_len (drop place bytes)) × (at ≡ place)
Last bytes (Some open_comment) count place at = (is_comment_at count (drop place bytes) ≡ true) × (comment_len (drop place bytes) ≡ None) × (at ≡ length bytes)

record Outcome (bytes : List ℕ) (cause : Option TokenCause) (at : ℕ) (pieces : List Piece) : Type 0 where
  end : ℕ
  leads : StandInTurn bytes 0 0 pieces end
  last : Last bytes cause (opened 0 pieces) (behind_white bytes end) at

last_stops : (bytes : List ℕ) (cause : Option TokenCause) (count end at : ℕ) → Last bytes cause count (behind_white bytes end) at → Stops bytes end count
last_stops bytes None count end at h = none_stops bytes end count (ap (λ (n : ℕ). kind_at (drop n bytes)) h.0 ∙ ap kind_at (drop-length bytes))
last_stops bytes (Some bad_byte) count end at h = none_stops bytes end count h.1
last_stops bytes (Some long_id) count end at h = long_stops bytes end count h.0 h.1
last_stops bytes (Some open_comment) count end at h = comment_stops bytes end count h.0 h.1

-- at the end of the text nothing begins
nothing_left : (bytes : List ℕ) (place : ℕ) (k : Kind) → place ≡ length bytes → kind_at (drop place bytes) ≡ Some k → ⊥
nothing_left bytes place k e some =
    let both : None ≡ Some k = sym (ap kind_at (drop-length bytes)) ∙ sym (ap (λ (n : ℕ). kind_at (drop n bytes)) e) ∙ some in
    cc

two_kinds : (o : Option Kind) (k : Kind) → o ≡ None → o ≡ Some k → ⊥
two_kinds o k none some = let both : None ≡ Some k = sym none ∙ some in cc

no_id : (count : ℕ) (bytes : List ℕ) → kind_at bytes ≡ Some Id → is_comment_at count bytes ≡ true → ⊥
no_id count bytes id begins = let both : Some Id ≡ Some LeftParen = sym id ∙ begins_with_bracket count bytes begins in cc

same_cause : (bytes : List ℕ) (cause other : Option TokenCause) (count place at to : ℕ) → Last bytes cause count place at → Last bytes other count place to → (cause ≡ other) × (at ≡ to)
same_cause bytes None None count place at to p q = (refl, p.1 ∙ sym q.1)
same_cause bytes None (Some bad_byte) count place at to p q = absurd (omega (arith, p.0, q.0))
same_cause bytes None (Some long_id) count place at to p q = absurd (nothing_left bytes place Id p.0 q.0)
same_cause bytes None (Some open_comment) count place at to p q = absurd (nothing_left bytes place LeftParen p.0 (begins_with_bracket count (drop place bytes) q.0))
same_cause bytes (Some bad_byte) None count place at to p q = absurd (omega (arith, p.0, q.0))
same_cause bytes (Some bad_byte) (Some bad_byte) count place at to p q = (refl, p.2 ∙ sym q.2)
same_cause bytes (Some bad_byte) (Some long_id) count place at to p q = absurd (two_kinds (kind_at (drop place bytes)) Id p.1 q.0)
same_cause bytes (Some bad_byte) (Some open_comment) count place at to p q = absurd (two_kinds (kind_at (drop place bytes)) LeftParen p.1 (begins_with_bracket count (drop place bytes) q.0))
same_cause bytes (Some long_id) None count place at to p q = absurd (nothing_left bytes place Id q.0 p.0)
same_cause bytes (Some long_id) (Some bad_byte) count place at to p q = absurd (two_kinds (kind_at (drop place bytes)) Id q.1 p.0)
same_cause bytes (Some long_id) (Some long_id) count place at to p q = (refl, p.2 ∙ sym q.2)
same_cause bytes (Some long_id) (Some open_comment) count place at to p q = absurd (no_id count (drop place bytes) p.0 q.0)
same_cause bytes (Some open_comment) None count place at to p q = absurd (nothing_left bytes place LeftParen q.0 (begins_with_bracket count (drop place bytes) p.0))
same_cause bytes (Some open_comment) (Some bad_byte) count place at to p q = absurd (two_kinds (kind_at (drop place bytes)) LeftParen q.1 (begins_with_bracket count (drop place bytes) p.0))
same_cause bytes (Some open_comment) (Some long_id) count place at to p q = absurd (no_id count (drop place bytes) q.0 p.0)
same_cause bytes (Some open_comment) (Some open_comment) count place at to p q = (refl, p.2 ∙ sym q.2)

-- a text has one outcome
one_outcome : (bytes : List ℕ) (cause other : Option TokenCause) (at to : ℕ) (ps qs : List Piece) → Outcome bytes cause at ps → Outcome bytes other to qs → (ps ≡ qs) × (cause ≡ other) × (at ≡ to)
one_outcome bytes cause other at to ps qs p q =
    let same = same_end bytes 0 0 ps qs p.end q.end p.leads (last_stops bytes cause (opened 0 ps) p.end at p.last) q.leads (last_stops bytes other (opened 0 qs) q.end to q.last) in
    let moved = subst (λ (os : List Piece). Last bytes other (opened 0 os) (behind_white bytes q.end) to) (sym same.0) q.last in
    let here = subst (λ (n : ℕ). Last bytes other (opened 0 ps) (behind_white bytes n) to) (sym same.1) moved in
    let causes = same_cause bytes cause other (opened 0 ps) (behind_white bytes p.end) at to p.last here in
    (same.0, causes.0, causes.1)

spelled_outcome : (bytes : List ℕ) (ts : List Token) (s : Spells bytes ts) → Outcome bytes None (length bytes) s.pieces
spelled_outcome bytes ts s = record { end = s.end; leads = s.leads; last = (s.whole, sym s.whole) }

record RefusedThere (bytes : List ℕ) (cause : TokenCause) (at : ℕ) : Type 0 where
  pieces : List Piece
  outcome : Outcome bytes (Some cause) at pieces

-- what is known of a place that is reached, said of the place behind the pieces
moved_last : (bytes : List ℕ) (cause : TokenCause) (count place at : ℕ) (r : IsReached bytes count place) → Last bytes (Some cause) count place at → RefusedThere bytes cause at
moved_last bytes cause count place at r last = record {
  pieces = r.pieces;
  outcome = record {
    end = r.end;
    leads = r.leads;
    last = subst (λ (n : ℕ). Last bytes (Some cause) n (behind_white bytes r.end) at) r.counted (subst (λ (n : ℕ). Last bytes (Some cause) count n at) r.behind last);
  };
}

refusal_of : (bytes : List ℕ) (cause : TokenCause) (at : ℕ) → HasNoTokens bytes cause at → RefusedThere bytes cause at
refusal_of bytes bad_byte at h = moved_last bytes bad_byte h.0 at at h.1 (h.2, h.3, refl)
refusal_of bytes long_id at h = moved_last bytes long_id h.0 at at h.1 (h.2, h.3, refl)
refusal_of bytes open_comment at h = moved_last bytes open_comment h.0 h.1 at h.2 (h.3, h.4, h.5)

pub one_list : (bytes : List ℕ) (ts us : List Token) → Spells bytes ts → Spells bytes us → ts ≡ us
one_list bytes ts us p q =
    let same = one_outcome bytes None None (length bytes) (length bytes) p.pieces q.pieces (spelled_outcome bytes ts p) (spelled_outcome bytes us q) in
    sym p.tokens ∙ ap tokens_of same.0 ∙ q.tokens

pub one_bad_place : (bytes : List ℕ) (cause other : TokenCause) (at place : ℕ) → HasNoTokens bytes cause at → HasNoTokens bytes other place → (cause ≡ other) × (at ≡ place)
one_bad_place bytes cause other at place p q =
    let r = refusal_of bytes cause at p in
    let s = refusal_of bytes other place q in
    let same = one_outcome bytes (Some cause) (Some other) at place r.pieces s.pieces r.outcome s.outcome in
    (some_is cause other same.1, same.2)

pub never_both : (bytes : List ℕ) (ts : List Token) (cause : TokenCause) (at : ℕ) → Spells bytes ts → HasNoTokens bytes cause at → ⊥
never_both bytes ts cause at p q =
    let r = refusal_of bytes cause at q in
    let same = one_outcome bytes None (Some cause) (length bytes) at p.pieces r.pieces (spelled_outcome bytes ts p) r.outcome in
    let both : None ≡ Some cause = same.1 in
    cc

-- there is some item behind others
not_empty : {A : Type 0} (xs : List A) (x : A) → xs ++ x ∷ [] ≡ [] → ⊥
not_empty [] x e = absurd cc
not_empty (y ∷ xs) x e = absurd cc

same_tail : (t u : Token) (ts us : List Token) → t ∷ ts ≡ u ∷ us → ts ≡ us
same_tail t u ts us e = cc

stops_whole : (bytes : List ℕ) (at count : ℕ) (ps qs : List Piece) (m n : ℕ) (t : Token) → StandInTurn bytes at count ps m → Stops bytes m (opened count ps)
    → StandInTurn bytes at count qs n → tokens_of qs ≡ tokens_of ps ++ t ∷ [] → ⊥
stops_whole bytes at count ps [] m n t l p r e = not_empty (tokens_of ps) t (sym e)
stops_whole bytes at count [] (token u ∷ qs) m n t l p r e = (subst (λ (k : ℕ). Stops bytes k count) (sym l) p).tokens u r.0
stops_whole bytes at count [] (comment to ∷ qs) m n t l p r e = (subst (λ (k : ℕ). Stops bytes k count) (sym l) p).comments to r.0
stops_whole bytes at count (token v ∷ ps) (comment to ∷ qs) m n t l p r e = not_both bytes at count to v l.0 r.0
stops_whole bytes at count (comment to ∷ ps) (token u ∷ qs) m n t l p r e = not_both bytes at count to u r.0 l.0
stops_whole bytes at count (token v ∷ ps) (token u ∷ qs) m n t l p r e =
    let same = same_token bytes at count v u l.0 r.0 in
    stops_whole bytes v.to (open_after count v.kind) ps qs m n t l.1 p (subst (λ (w : Token). StandInTurn bytes w.to (open_after count w.kind) qs n) (sym same) r.1)
    (same_tail u v (tokens_of qs) (tokens_of ps ++ t ∷ []) e)
stops_whole bytes at count (comment to ∷ ps) (comment other ∷ qs) m n t l p r e =
    let same = same_comment bytes at count to other l.0 r.0 in
    stops_whole bytes to count ps qs m n t l.1 p (subst (λ (k : ℕ). StandInTurn bytes k count qs n) (sym same) r.1) e

-- where no piece follows, no token more is read
pub no_more : (bytes : List ℕ) (cause : Option TokenCause) (at end to : ℕ) (ps qs : List Piece) (t : Token) → StandInTurn bytes 0 0 ps end → Last bytes cause (opened 0 ps) (behind_white bytes end) at
    → StandInTurn bytes 0 0 qs to → tokens_of qs ≡ tokens_of ps ++ t ∷ [] → ⊥
no_more bytes cause at end to ps qs t l last r e = stops_whole bytes 0 0 ps qs end to t l (last_stops bytes cause (opened 0 ps) end at last) r e
