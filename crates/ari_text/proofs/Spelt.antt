-- A text that is one identifier, and words that are spelt.
use Rattle.std.proofs.Common.{◌≡◌, ℕ, zero, suc, ◌+◌, ◌-◌, ◌<◌, ◌≤◌, true, false, List, [], ◌∷◌, ◌++◌, length, refl, sym, ap, ◌∙◌, subst, take, drop, get_or, All, Option, Some, None, arith}
use Rattle.std.specs.Prelude.{slice_range}
use Rattle.std.proofs.lemmas.List.Elements.{All-head}
use Rattle.std.proofs.Math.Seq.{take-length}
use Rattle.file_text.specs.Bytes.{is_white}
use Rattle.file_text.specs.declared.Kind.TheVariants.{Id as id_kind}
use Rattle.file_text.specs.declared.Token.{Token}
use Rattle.file_text.specs.Tokens.{Spells}
use Rattle.file_text.proofs.Names.{IsName}
use Rattle.file_text.proofs.Lexemes.{IsNamed, spelled_names}
use Rattle.ari_text.specs.declared.words.Word.{Word}
use Rattle.ari_text.specs.declared.words.Word.TheVariants.{Open, Close, Quoted}
use Rattle.ari_text.specs.Signs.{Sign, opening, closing, name, odd, sign_of, signs_of, IsSpelt, IsSpeltSign, AreSpelt}
use Rattle.ari_text.specs.Spelling.{is_bare, AreBare, begins_bare, AreNot, ends_line, IsSignOf, Spell, end_of_text, white_byte, line_comment, left_bracket, right_bracket}
use Rattle.ari_text.specs.Spelling.{bare_name, barred_name, quoted_text}
use Rattle.ari_text.specs.Pieces.{IsBareRun, IsFirstPlace, IsEnclosed, word_signs, IsPiece, IsPushed}

pub spelt_name : (name : List ℕ) (ts : List Token) → Spells name ts → ts ≡ record { kind = id_kind; from = 0; to = length name } ∷ [] → IsSpelt name
spelt_name bytes ts s e =
    let t : Token = record { kind = id_kind; from = 0; to = length bytes } in
    let all = subst (All (IsNamed bytes)) e (spelled_names bytes ts s) in
    let one : IsName (slice_range bytes 0 (length bytes)) = All-head (IsNamed bytes) t [] all refl in
    let all_of : length bytes - 0 ≡ length bytes = omega arith in
    let whole : IsName bytes = subst IsName (take-length bytes) (subst (λ (n : ℕ). IsName (take n bytes)) all_of one) in
    record { some = whole.some; whole = whole.whole; short = whole.short }

-- the word of a name that is one identifier
pub name_sign : (bytes text : List ℕ) (ts : List Token) → Spells bytes ts → ts ≡ record { kind = id_kind; from = 0; to = length bytes } ∷ [] → text ≡ bytes → IsSignOf bytes (name text)
name_sign bytes text ts s e t = (t, spelt_name bytes ts s e)

sign_spelt : (f : List ℕ) (w : Sign) → IsSignOf f w → IsSpeltSign w
sign_spelt f opening h = absurd h
sign_spelt f closing h = absurd h
sign_spelt f (name g) h = subst IsSpelt (sym h.0) h.1
sign_spelt f odd h = tt

-- all names of words that are spelt are identifiers
pub are_spelt : (bytes : List ℕ) (ws : List Sign) → Spell bytes ws → AreSpelt ws
are_spelt _ _ end_of_text = tt
are_spelt _ _ (white_byte b bs ws e s) = are_spelt bs ws s
are_spelt _ _ (line_comment cs bs ws n e s) = are_spelt bs ws s
are_spelt _ _ (left_bracket bs ws s) = (tt, are_spelt bs ws s)
are_spelt _ _ (right_bracket bs ws s) = (tt, are_spelt bs ws s)
are_spelt _ _ (bare_name f bs w ws a b i s) = (sign_spelt f w i, are_spelt bs ws s)
are_spelt _ _ (barred_name f bs w ws n i s) = (sign_spelt f w i, are_spelt bs ws s)
are_spelt _ _ (quoted_text cs bs ws n s) = (tt, are_spelt bs ws s)

-- ---- bytes at the front

split_at_place : (n : ℕ) (xs : List ℕ) → take n xs ++ drop n xs ≡ xs
split_at_place zero xs = refl
split_at_place (suc n) [] = refl
split_at_place (suc n) (x ∷ xs) = ap (λ (ys : List ℕ). x ∷ ys) (split_at_place n xs)

are_bare : (n : ℕ) (xs : List ℕ) → n ≤ length xs → ((k : ℕ) → k < n → is_bare (get_or xs k 0) ≡ true) → AreBare (take n xs)
are_bare zero xs le h = tt
are_bare (suc n) [] le h = tt
are_bare (suc n) (x ∷ xs) le h = (h 0 (omega arith), are_bare n xs (omega arith) (λ k lt. h (suc k) (omega arith)))

are_not : (a n : ℕ) (xs : List ℕ) → ((k : ℕ) → k < n → get_or xs k 0 ≡ a → ⊥) → AreNot a (take n xs)
are_not a zero xs h = tt
are_not a (suc n) [] h = tt
are_not a (suc n) (x ∷ xs) h = (h 0 (omega arith), are_not a n xs (λ k lt. h (suc k) (omega arith)))

no_more_bare : (n : ℕ) (xs : List ℕ) → (n < length xs → is_bare (get_or xs n 0) ≡ false) → begins_bare (drop n xs) ≡ false
no_more_bare zero [] h = refl
no_more_bare zero (x ∷ xs) h = h (omega arith)
no_more_bare (suc n) [] h = refl
no_more_bare (suc n) (x ∷ xs) h = no_more_bare n xs (λ lt. h (omega arith))

line_ends : (n : ℕ) (xs : List ℕ) → (n < length xs → get_or xs n 0 ≡ 10) → ends_line (drop n xs) ≡ true
line_ends zero [] h = refl
line_ends zero (x ∷ xs) h = let e : x ≡ 10 = h (omega arith) in rw e refl
line_ends (suc n) [] h = refl
line_ends (suc n) (x ∷ xs) h = line_ends n xs (λ lt. h (omega arith))

found : (n : ℕ) (xs : List ℕ) → n < length xs → drop n xs ≡ get_or xs n 0 ∷ drop (suc n) xs
found zero [] lt = absurd (omega arith)
found zero (x ∷ xs) lt = refl
found (suc n) [] lt = absurd (omega arith)
found (suc n) (x ∷ xs) lt = found n xs (omega arith)

pub enclosed_there : (xs : List ℕ) (byte n : ℕ) (text : List ℕ) → IsFirstPlace xs byte n → (n ≡ length xs → ⊥) → text ≡ take n xs → IsEnclosed xs byte text
enclosed_there xs byte n text p ne e =
    let lt : n < length xs = omega (arith, p.within, ne) in record {
      rest = drop (suc n) xs;
      split = sym (split_at_place n xs) ∙ ap (λ (ys : List ℕ). take n xs ++ ys) (found n xs lt ∙ ap (λ (b : ℕ). b ∷ drop (suc n) xs) (p.there lt))
          ∙ ap (λ (ys : List ℕ). ys ++ byte ∷ drop (suc n) xs) (sym e);
      without = subst (AreNot byte) (sym e) (are_not byte n xs p.before);
    }

-- ---- pieces

drop_one : (b : ℕ) (xs : List ℕ) (n m : ℕ) → m ≡ n + 1 → drop m (b ∷ xs) ≡ drop n xs
drop_one b xs n m e = let q : m ≡ suc n = omega (arith, e) in ap (λ (k : ℕ). drop k (b ∷ xs)) q

drop_text : (t : List ℕ) (a : ℕ) (rest : List ℕ) (n : ℕ) → n ≡ length t + 1 → drop n (t ++ a ∷ rest) ≡ rest
drop_text [] a rest n e = let q : n ≡ suc zero = omega (arith, e) in ap (λ (k : ℕ). drop k (a ∷ rest)) q
drop_text (x ∷ t) a rest n e = let q : n ≡ suc (length t + 1) = omega (arith, e) in ap (λ (k : ℕ). drop k (x ∷ (t ++ a ∷ rest))) q ∙ drop_text t a rest (length t + 1) refl

text_len : (t : List ℕ) (a : ℕ) (rest : List ℕ) → length t + 1 ≤ length (t ++ a ∷ rest)
text_len [] a rest = omega arith
text_len (x ∷ t) a rest = let ih = text_len t a rest in omega (arith, ih)

pub left_piece : (bytes : List ℕ) (b : ℕ) (bs : List ℕ) (at : ℕ) → bytes ≡ b ∷ bs → b ≡ 40 → IsPiece bytes (Some (Open at)) 1
left_piece bytes b bs at e q = let f : bytes ≡ 40 ∷ bs = e ∙ ap (λ (x : ℕ). x ∷ bs) q in
    subst (λ (xs : List ℕ). IsPiece xs (Some (Open at)) 1) (sym f) record { some = omega arith; within = omega arith; goes_on = λ ws s. left_bracket bs ws s }

pub right_piece : (bytes : List ℕ) (b : ℕ) (bs : List ℕ) (at : ℕ) → bytes ≡ b ∷ bs → b ≡ 41 → IsPiece bytes (Some (Close at)) 1
right_piece bytes b bs at e q = let f : bytes ≡ 41 ∷ bs = e ∙ ap (λ (x : ℕ). x ∷ bs) q in
    subst (λ (xs : List ℕ). IsPiece xs (Some (Close at)) 1) (sym f) record { some = omega arith; within = omega arith; goes_on = λ ws s. right_bracket bs ws s }

pub white_piece : (bytes : List ℕ) (b : ℕ) (bs : List ℕ) → bytes ≡ b ∷ bs → is_white b ≡ true → IsPiece bytes None 1
white_piece bytes b bs e q =
    subst (λ (xs : List ℕ). IsPiece xs None 1) (sym e) record { some = omega arith; within = omega arith; goes_on = λ ws s. white_byte b bs ws q s }

pub comment_piece : (bytes : List ℕ) (b : ℕ) (bs : List ℕ) (n : ℕ) → bytes ≡ b ∷ bs → b ≡ 59 → IsFirstPlace bs 10 n → IsPiece bytes None (n + 1)
comment_piece bytes b bs n e q p = let f : bytes ≡ 59 ∷ bs = e ∙ ap (λ (x : ℕ). x ∷ bs) q in
    subst (λ (xs : List ℕ). IsPiece xs None (n + 1)) (sym f) record {
      some = omega arith;
      within = omega (arith, p.within);
      goes_on = λ ws s. subst (λ (xs : List ℕ). Spell (59 ∷ xs) ws) (split_at_place n bs)
          (line_comment (take n bs) (drop n bs) ws (are_not 10 n bs p.before) (line_ends n bs p.there) (subst (λ (xs : List ℕ). Spell xs ws) (drop_one 59 bs n (n + 1) refl) s));
    }

enclosed_drop : (a : ℕ) (bs t rest : List ℕ) → bs ≡ t ++ a ∷ rest → drop (length t + 2) (a ∷ bs) ≡ rest
enclosed_drop a bs t rest e = drop_one a bs (length t + 1) (length t + 2) (omega arith) ∙ ap (drop (length t + 1)) e ∙ drop_text t a rest (length t + 1) refl

enclosed_len : (a : ℕ) (bs t rest : List ℕ) → bs ≡ t ++ a ∷ rest → length t + 2 ≤ length (a ∷ bs)
enclosed_len a bs t rest e = let h = text_len t a rest in let l : length bs ≡ length (t ++ a ∷ rest) = ap (λ (xs : List ℕ). length xs) e in omega (arith, h, l)

pub barred_piece : (bs t : List ℕ) (w : Word) (n : ℕ) → IsEnclosed bs 124 t → IsSignOf t (sign_of w) → n ≡ length t → IsPiece (124 ∷ bs) (Some w) (n + 2)
barred_piece bs t w n c i q = subst (λ (m : ℕ). IsPiece (124 ∷ bs) (Some w) (m + 2)) (sym q) record {
  some = omega arith;
  within = enclosed_len 124 bs t c.rest c.split;
  goes_on = λ ws s. subst (λ (xs : List ℕ). Spell (124 ∷ xs) (sign_of w ∷ ws)) (sym c.split)
      (barred_name t c.rest (sign_of w) ws c.without i (subst (λ (xs : List ℕ). Spell xs ws) (enclosed_drop 124 bs t c.rest c.split) s));
}

pub quoted_piece : (bs t : List ℕ) (at n : ℕ) → IsEnclosed bs 34 t → n ≡ length t → IsPiece (34 ∷ bs) (Some (Quoted at)) (n + 2)
quoted_piece bs t at n c q = subst (λ (m : ℕ). IsPiece (34 ∷ bs) (Some (Quoted at)) (m + 2)) (sym q) record {
  some = omega arith;
  within = enclosed_len 34 bs t c.rest c.split;
  goes_on = λ ws s. subst (λ (xs : List ℕ). Spell (34 ∷ xs) (odd ∷ ws)) (sym c.split)
      (quoted_text t c.rest ws c.without (subst (λ (xs : List ℕ). Spell xs ws) (enclosed_drop 34 bs t c.rest c.split) s));
}

pub bare_piece : (bytes t : List ℕ) (w : Word) (n : ℕ) → IsBareRun bytes n → (n ≡ 0 → ⊥) → t ≡ take n bytes → IsSignOf t (sign_of w) → IsPiece bytes (Some w) n
bare_piece bytes t w n r ne e i = record {
  some = omega (arith, ne);
  within = r.within;
  goes_on = λ ws s. subst (λ (xs : List ℕ). Spell xs (sign_of w ∷ ws)) (split_at_place n bytes)
      (bare_name (take n bytes) (drop n bytes) (sign_of w) ws (are_bare n bytes r.within r.bare) (no_more_bare n bytes r.ends) (subst (λ (f : List ℕ). IsSignOf f (sign_of w)) e i) s);
}

pub first_byte : (bytes behind : List ℕ) → 0 < length bytes → behind ≡ drop 1 bytes → bytes ≡ get_or bytes 0 0 ∷ behind
first_byte [] behind lt q = absurd (omega arith)
first_byte (x ∷ xs) behind lt q = ap (λ (ys : List ℕ). x ∷ ys) (sym q)

-- ---- words so far

-- words up to a place, and what goes on with them
pub record IsSpeltTo (bytes : List ℕ) (words : List Word) (at : ℕ) : Type 0 where
  pub within : at ≤ length bytes
  pub goes_on : (ws : List Sign) → Spell (drop at bytes) ws → Spell bytes (signs_of words ++ ws)

drop_none : (n : ℕ) → drop {A = ℕ} n [] ≡ []
drop_none zero = refl
drop_none (suc n) = refl

drop_drop : (m n k : ℕ) (xs : List ℕ) → k ≡ m + n → drop n (drop m xs) ≡ drop k xs
drop_drop zero n k xs e = let q : n ≡ k = omega (arith, e) in ap (λ (i : ℕ). drop i xs) q
drop_drop (suc m) n k [] e = drop_none n ∙ sym (drop_none k)
drop_drop (suc m) n k (x ∷ xs) e = let q : k ≡ suc (m + n) = omega (arith, e) in drop_drop m n (m + n) xs refl ∙ ap (λ (i : ℕ). drop i (x ∷ xs)) (sym q)

pub spelt_on : (bytes rest : List ℕ) (before after : List Word) (word : Option Word) (at len : ℕ)
    → IsSpeltTo bytes before at → rest ≡ drop at bytes → length rest + at ≡ length bytes → IsPiece rest word len → IsPushed before after word → IsSpeltTo bytes after (at + len)
spelt_on bytes rest before after word at len s e l p q = record {
  within = omega (arith, s.within, p.within, l);
  goes_on = λ ws t. subst (Spell bytes) (sym (q.words ws)) (s.goes_on (word_signs word ws) (subst (λ (xs : List ℕ). Spell xs (word_signs word ws)) e
      (p.goes_on ws (subst (λ (xs : List ℕ). Spell xs ws) (sym (ap (drop len) e ∙ drop_drop at len (at + len) bytes refl)) t))));
}

no_bytes : (n : ℕ) (xs : List ℕ) → length xs ≤ n → drop n xs ≡ []
no_bytes zero [] le = refl
no_bytes zero (x ∷ xs) le = absurd (omega arith)
no_bytes (suc n) [] le = refl
no_bytes (suc n) (x ∷ xs) le = no_bytes n xs (omega arith)

append_none : (ws : List Sign) → ws ++ [] ≡ ws
append_none [] = refl
append_none (w ∷ ws) = ap (λ (vs : List Sign). w ∷ vs) (append_none ws)

pub spelt_end : (bytes : List ℕ) (words : List Word) (at : ℕ) → IsSpeltTo bytes words at → length bytes ≤ at → Spell bytes (signs_of words)
spelt_end bytes words at s le = subst (Spell bytes) (append_none (signs_of words)) (s.goes_on [] (subst (λ (xs : List ℕ). Spell xs []) (sym (no_bytes at bytes le)) end_of_text))
