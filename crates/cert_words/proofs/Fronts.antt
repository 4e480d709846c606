-- Which lead stands at the front of bytes, and how far leads are read.
use Rattle.cert_words.proofs.Prelude.{Lead, Mode, text, keyword, check, is_short, is_there, spelling, scan, is_word, mode_of, ends_lead, taken, longest, text_is, lead_there, found_there}
use Rattle.cert_words.proofs.Prelude.{length-append, ◌++◌, ◌≡◌, ◌≤◌, ℕ, true, false, List, [], ◌∷◌, max, map, length, get_or, take, drop, refl, sym, ap, ◌∙◌}
use Rattle.cert_words.proofs.Prelude.{subst, arith, false_from_ne_true, drop-append_seam, bare, IsReached, IsLeadRead, IsScanned}
use Rattle.cert_grammar.specs.FirstRefusal.{ends_here}
use Rattle.cert_grammar.proofs.ScanLaws.{IsWordOf, spelling_whole}
use Rattle.cert_words.specs.declared.leads.Lead as code

-- the longest front of the leads, with the longest one of those that have been seen
pub record LongestOn (leads : List code.Lead) (bytes : List ℕ) (at most : ℕ) : Type 0 where
  pub longest : longest (map bare leads) bytes ≡ max most (longest (map bare (drop at leads)) bytes)
  pub within : most ≤ length bytes

-- a word that is found byte by byte
pub is_front : (a : Lead) (bytes : List ℕ) (size : ℕ) → IsScanned a → is_word (scan (mode_of a) bytes).mode ≡ true
    → size ≡ (scan (mode_of a) bytes).size → size ≤ length bytes → ends_here (drop size bytes) ≡ true → IsReached a bytes size
is_front a bytes size n h e le ends =
    let off : ends_lead a (drop (scan (mode_of a) bytes).size bytes) ≡ true = (n _).1 ∙ ap ends_here (ap (λ (k : ℕ). drop k bytes) (sym e)) ∙ ends in
    record { there = rw (h, off) refl; extent = e ∙ sym (n bytes).0; within = le }

-- all of a lead that is spelt stands at the front
pub spelt_front : (a : Lead) (w bytes rest : List ℕ) (size : ℕ) → size ≡ length w → mode_of a ≡ spelling w → taken a bytes ≡ length w → ends_lead a rest ≡ true → bytes ≡ w ++ rest
    → IsReached a bytes size
spelt_front a w bytes rest size n m t ends e =
    let spelt = subst (λ (x : Mode). IsWordOf x w) (sym m) (record { last = spelling []; goes = spelling_whole w; whole = refl }) in
    record { there = ap (is_there a) e ∙ lead_there a w rest spelt ends; extent = n ∙ sym t; within = omega (arith, n, ap length e ∙ length-append w rest) }

-- or not all of it
pub not_front : (a : Lead) (w bytes : List ℕ) → mode_of a ≡ spelling w → ((rest : List ℕ) → bytes ≡ w ++ rest → ends_lead a rest ≡ true → ⊥) → is_there a bytes ≡ false
not_front a w bytes m n = false_from_ne_true _ (λ e.
    let f = found_there a bytes e in
    n f.rest (f.parts ∙ ap (λ (v : List ℕ). v ++ f.rest) (text_is w f.word_of (subst (λ (x : Mode). IsWordOf x f.word_of) m f.spelt))) f.ends)

-- the word of a keyword, and no end of it
pub not_ended : (w bytes rest : List ℕ) → bytes ≡ w ++ rest → ends_here rest ≡ false → is_there (keyword w [] []) bytes ≡ false
not_ended w bytes rest e f = not_front (keyword w [] []) w bytes refl (λ r g t.
    let same : r ≡ rest = sym (drop-append_seam w r) ∙ ap (drop (length w)) (sym g ∙ e) ∙ drop-append_seam w rest in
    absurd cc)

-- a byte at the front
pub check_front : (b : ℕ) (bytes : List ℕ) → 1 ≤ length bytes → get_or bytes 0 0 ≡ b → IsReached (check (is_short 0) b []) bytes 0
check_front b [] l e = absurd (omega (arith, l))
check_front b (a ∷ rest) l e =
    let there = (spelt_front (text (b ∷ []) []) (b ∷ []) (a ∷ rest) rest 1 refl refl refl refl (ap (λ (x : ℕ). x ∷ rest) e)).there in
    record { there = there; extent = refl; within = omega arith }

-- so many bytes at the front, and what is behind them
pub lead_read : {a : Lead} {bytes w behind : List ℕ} (size : ℕ) → IsReached a bytes size → w ≡ take size bytes → behind ≡ drop size bytes → IsLeadRead a bytes w behind
lead_read {bytes = bytes} size h w rest =
    record {
      there = h.there;
      word = w ∙ ap (λ (k : ℕ). take k bytes) h.extent;
      rest = rest ∙ ap (λ (k : ℕ). drop k bytes) h.extent;
      within = omega (arith, h.extent, h.within);
    }
