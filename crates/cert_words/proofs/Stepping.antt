-- One word, which is let through or refused.
use Rattle.std.specs.Option.{option_and_then}
use Rattle.cert_words.proofs.Prelude.{◌≡◌, ◌≤◌, ◌<◌, ◌+◌, ◌-◌, nat_le, nat_lt, ℕ, suc, Bool, true, false, ◌&&◌, List, [], ◌∷◌, ◌++◌, length, take, drop, codes, Option, Some, None, is_some}
use Rattle.cert_words.proofs.Prelude.{unwrap_or, Bor, refl, sym, ap, ◌∙◌, subst, arith, length-drop, lt-leb, le-leb, lt-ltb, and_parts, drop-append_seam, NameTable, number_of}
use Rattle.cert_words.proofs.Prelude.{arity_at, largest, name_of, IsIdentifier, is_number, Counted, limit, counted_as, CertificateCause, syntax, bad_number}
use Rattle.cert_words.proofs.Prelude.{too_many, has_arity, in_range, is_few, Naming, Demand, meets, Mark, fixed, word, symbol, behind, demands_of, verdict, are_places}
use Rattle.cert_words.proofs.Prelude.{places_text, position, scan, is_word, value, places, Item, Lead, text, check, keyword, numeral_lead, position_lead, variable_lead, name_lead}
use Rattle.cert_words.proofs.Prelude.{leads, is_there, taken, mark_of, items_of, longest, first_there, Left, Step, goes_on, behind_lead, judged, step, step_lead, Shared, share_verdict}
use Rattle.cert_words.proofs.Prelude.{behind_mark, ends, next_lead, shared_judged, behind_lead_shared, after_step, mode_of, ends_lead, refuses, numeral, with_begun, IsStill}
use Rattle.cert_words.proofs.Prelude.{still_marks, still_pass, places_still, found_there, text_is, first_sound, CertError, Reading, IsLeadRead, told, IsTold, counted_view, left_at, Walks}
use Rattle.cert_words.proofs.Prelude.{tagged, AreFound, Keeps, Run, RefusesAt, IsStuckAt, Reads}
use Rattle.cert_grammar.proofs.Names.{found_is_named}
use Rattle.cert_grammar.proofs.ScanLaws.{IsWordOf, scanned}
use Rattle.cert_grammar.proofs.ScanWords.{number_is, place_is, bar_is, name_is}
use Rattle.cert_words.proofs.Walking.{front_same, went, stopped, stuck_stops}
use Rattle.cert_words.specs.Nodes.{IsBarNumber}
pub use Rattle.cert_words.specs.Choices.{Front, plain}
use Rattle.cert_grammar.specs.FirstRefusal as machine
use Rattle.cert_words.specs.declared.error.CertCount as counts
use Rattle.cert_words.specs.declared.error.CertCount.TheVariants as counting

same_left : (m n : ℕ) (s t : List Item) (b c : List ℕ) → m ≡ n → s ≡ t → b ≡ c → ◌≡◌ {A = Left} (record { at = m; items = s; bytes = b }) (record { at = n; items = t; bytes = c })
same_left m n s t b c p q r = cc

-- a mark at which nothing of shared automata is judged
pub still_keeps : (m : Mark) (s : Shared) → IsStill (demands_of m) → Keeps s (m ∷ []) s
still_keeps m s h = λ b. (still_pass (m ∷ []) (with_begun b s) (h, tt), ap (with_begun []) (still_marks (m ∷ []) s.texts b s.used s.unfolds_to (h, tt)))

-- the word of a lead that is there
spelt_by : (a : Lead) (bytes w : List ℕ) → is_there a bytes ≡ true → w ≡ take (scan (mode_of a) bytes).size bytes → IsWordOf (mode_of a) w
spelt_by a bytes w h e = subst (IsWordOf (mode_of a)) (sym e) (record {
  last = (scan (mode_of a) bytes).mode;
  goes = (scanned bytes (mode_of a)).goes;
  whole = (and_parts (is_word (scan (mode_of a) bytes).mode) (ends_lead a (drop (scan (mode_of a) bytes).size bytes)) h).0;
})

-- the number behind a bar
pub bar_read : (v : List ℕ) (x : ℕ) → IsBarNumber v (Some x) → (x ≡ value (drop 1 v)) × ((nat_le 0 (value (drop 1 v)) && nat_lt (value (drop 1 v)) (suc largest)) ≡ true)
bar_read [] x e = absurd e
bar_read (b ∷ v) x e = (e.0, let le = e.1 in rw (le-leb 0 (value v) (omega arith), lt-ltb (value v) (suc largest) (omega (arith, le, e.0))) refl)

module _ (names : NameTable) (end : ℕ) {bytes : List ℕ} {i : Item} {a : Lead} {w rest : List ℕ} (f : Front bytes i a w rest) where
  step_here : (items : List Item) (v : Option (CertificateCause × ℕ)) → verdict names (end - length bytes) (demands_of (mark_of a w)) ≡ v
      → step names (left_at end (i ∷ items) bytes) ≡ judged v (behind_lead (left_at end (i ∷ items) bytes) a items)
  step_here items v e =
      let l = left_at end (i ∷ items) bytes in
      ap (λ (x : Option Lead). step_lead names l x i items) f.first
      ∙ ap (λ (x : Option (CertificateCause × ℕ)). judged x (behind_lead l a items)) (subst (λ (k : List ℕ). verdict names l.at (demands_of (mark_of a k)) ≡ v) f.word e)

  pub one_walk : verdict names (end - length bytes) (demands_of (mark_of a w)) ≡ None → length bytes ≤ end → (items : List Item)
      → Walks names (mark_of a w ∷ []) (left_at end (i ∷ items) bytes) (left_at end (items_of a w ++ items) rest)
  one_walk met le items =
      let l = left_at end (i ∷ items) bytes in
      let size : length rest ≡ length bytes - taken a bytes = ap length f.rest ∙ length-drop (taken a bytes) bytes in
      let place : l.at + taken a bytes ≡ end - length rest = omega (arith, size, f.within, le) in
      let there : behind_lead l a items ≡ left_at end (items_of a w ++ items) rest = same_left _ _ _ _ _ _ place (ap (λ (k : List ℕ). items_of a k ++ items) (sym f.word)) (sym f.rest) in (
        left_at end (items_of a w ++ items) rest,
        record { item = i; others = items; items = refl; lead = a; first = f.first; mark = ap (mark_of a) f.word; goes = step_here items None met ∙ ap goes_on there },
        refl,
      )

  -- where its demands are met
  one_step : (s t : Shared) (marks : Naming → List Mark) → verdict names (end - length bytes) (demands_of (mark_of a w)) ≡ None → Keeps s (mark_of a w ∷ []) t
      → marks (name_of names) ≡ mark_of a w ∷ [] → AreFound names (marks tagged) → Run names end (i ∷ []) marks (items_of a w) bytes rest s t
  one_step s t marks met keeps m found = record {
    walks = λ le items. subst (λ (ms : List Mark). Walks names ms (left_at end (i ∷ items) bytes) (left_at end (items_of a w ++ items) rest)) (sym m) (one_walk met le items);
    found = found;
    shares = λ le. subst (λ (ms : List Mark). Keeps s ms t) (sym m) keeps;
  }

  stops_here : (items : List Item) (z : Shared) (e : CertificateCause × ℕ) (x : Step) → step names (left_at end (i ∷ items) bytes) ≡ x
      → after_step (left_at end (i ∷ items) bytes) z (next_lead (i ∷ items) bytes) x ≡ ends (machine.refused e.0 e.1) → RefusesAt names (left_at end (i ∷ items) bytes) z e
  stops_here items z e x q h = ap (after_step (left_at end (i ∷ items) bytes) z (next_lead (i ∷ items) bytes)) q ∙ h

  -- where they are not, if not for want of memory
  pub one_stop : (s : Shared) (t : Option (CertificateCause × ℕ)) → IsTold (verdict names (end - length bytes) (demands_of (mark_of a w))) t → IsStuckAt names end i bytes s t
  one_stop s None v = tt
  one_stop s (Some e) v = λ items b. stops_here items (with_begun b s) e _ (step_here items (Some e) v) refl

  -- where shared automata refuse it
  pub shared_stop : (e : CertificateCause × ℕ) (items : List Item) (z : Shared) → verdict names (end - length bytes) (demands_of (mark_of a w)) ≡ None
      → share_verdict z (end - length bytes) (demands_of (mark_of a w)) ≡ Some e → RefusesAt names (left_at end (i ∷ items) bytes) z e
  shared_stop e items z met v =
      let l = left_at end (i ∷ items) bytes in
      let there = subst (λ (k : List ℕ). share_verdict z (end - length bytes) (demands_of (mark_of a k)) ≡ Some e) f.word v in
      stops_here items z e _ (step_here items None met) (ap (λ (x : Option Lead). behind_lead_shared l z x (behind_lead l a items)) f.first
      ∙ ap (λ (o : Option (CertificateCause × ℕ)). shared_judged o (behind_lead l a items) (behind_mark (mark_of a (take (taken a bytes) bytes)) z)) there)

pub spelling_of : {bytes w rest : List ℕ} {i : Item} {a : Lead} → Front bytes i a w rest → w ≡ take (scan (mode_of a) bytes).size bytes → IsWordOf (mode_of a) w
spelling_of {bytes} {w} {i = i} {a} f e = spelt_by a bytes w (first_sound (leads i) a bytes f.first).1 e

pub named : {bytes v rest : List ℕ} {i : Item} {ds : List Demand} {new : List ℕ → List Item} → Front bytes i (name_lead ds new) v rest → IsIdentifier v
named {v = v} f = name_is v (spelling_of f f.word)

pub spelt_place : {bytes v rest : List ℕ} → IsLeadRead (position_lead []) bytes v rest → v ≡ places_text (places v)
spelt_place {bytes} {v} h = place_is v (spelt_by (position_lead []) bytes v h.there h.word)

-- ---- each kind of lead

pub none_now : {A : Type 0} {r : Option A} {t : Bool} → t ≡ is_some r → t ≡ false → r ≡ None
none_now {r = None} e f = refl
none_now {r = Some x} e f = absurd cc

pub some_now : {A : Type 0} {r : Option A} {t : Bool} → t ≡ is_some r → t ≡ true → (x : A) × (r ≡ Some x)
some_now {r = None} e f = absurd cc
some_now {r = Some x} e f = (x, refl)

-- it is there as the lead is, and as long
pub record SamePlain (a : Lead) (bytes : List ℕ) : Type 0 where
  pub there : is_there (plain a) bytes ≡ is_there a bytes
  pub taken : taken (plain a) bytes ≡ taken a bytes
  pub size : (scan (mode_of (plain a)) bytes).size ≡ (scan (mode_of a) bytes).size

pub same_plain : (a : Lead) (bytes : List ℕ) → SamePlain a bytes
same_plain (text w new) bytes = record { there = refl; taken = refl; size = refl }
same_plain _ bytes = record { there = refl; taken = refl; size = refl }

pub front_of : {bytes w rest : List ℕ} {i : Item} (a : Lead) → first_there (leads i) bytes ≡ Some a → IsLeadRead (plain a) bytes w rest → Front bytes i a w rest
front_of {bytes} a e h =
    let same = (same_plain a bytes).taken in
    record { first = e; word = h.word ∙ ap (λ (n : ℕ). take n bytes) same; rest = h.rest ∙ ap (λ (n : ℕ). drop n bytes) same; within = omega (arith, same, h.within) }

-- the first lead is there, or the second, or the third
module _ {bytes w rest : List ℕ} {i : Item} where
  pub one : {a : Lead} {others : List Lead} → leads i ≡ a ∷ others → IsLeadRead (plain a) bytes w rest → Front bytes i a w rest
  one {a} e h = front_of a (ap (λ (ls : List Lead). first_there ls bytes) e ∙ rw (sym (same_plain a bytes).there ∙ h.there) refl) h

  pub two : {a b : Lead} {others : List Lead} → leads i ≡ a ∷ b ∷ others → is_there a bytes ≡ false → IsLeadRead (plain b) bytes w rest → Front bytes i b w rest
  two {a} {b} e g h = front_of b (ap (λ (ls : List Lead). first_there ls bytes) e ∙ rw g (rw (sym (same_plain b bytes).there ∙ h.there) refl)) h

  pub three : {a b d : Lead} {others : List Lead} → leads i ≡ a ∷ b ∷ d ∷ others → is_there a bytes ≡ false → is_there b bytes ≡ false → IsLeadRead (plain d) bytes w rest → Front bytes i d w rest
  three {a} {b} {d} e g k h = front_of d (ap (λ (ls : List Lead). first_there ls bytes) e ∙ rw g (rw k (rw (sym (same_plain d bytes).there ∙ h.there) refl))) h

-- where no lead is there
module _ (names : NameTable) (end : ℕ) (bytes : List ℕ) (s : Shared) (i : Item) where
  pub stuck_among : (e : CertError) (ls ks : List Lead) → leads i ≡ ls → first_there ls bytes ≡ None → longest ls bytes ≡ longest ks bytes
      → told e ≡ Some (syntax, (end - length bytes) + longest ks bytes) → IsStuckAt names end i bytes s (told e)
  stuck_among e ls ks is f same t =
      let far : (end - length bytes) + longest (leads i) bytes ≡ (end - length bytes) + longest ks bytes = ap (λ (n : ℕ). (end - length bytes) + n)
      (ap (λ (x : List Lead). longest x bytes) is ∙ same) in
      let step_none : (items : List Item) → step names (left_at end (i ∷ items) bytes) ≡ refuses syntax ((end - length bytes) + longest ks bytes) =
      λ items. ap (λ (x : Option Lead). step_lead names (left_at end (i ∷ items) bytes) x i items) (ap (λ (x : List Lead). first_there x bytes) is ∙ f) ∙ ap (refuses syntax) far in
      subst (IsStuckAt names end i bytes s) (sym t) (λ items b. ap (after_step (left_at end (i ∷ items) bytes) (with_begun b s) (next_lead (i ∷ items) bytes)) (step_none items))

pub name_found : (names : NameTable) (v : List ℕ) (g : ℕ) → number_of names.symbols v ≡ Some g → number_of names.symbols (name_of names g) ≡ Some g
name_found names v g e = let same : name_of names g ≡ v = ap (λ o. unwrap_or o []) (found_is_named names v g e) in ap (number_of names.symbols) same ∙ e

-- what is read with a lead
module _ {names : NameTable} {end : ℕ} {bytes v rest : List ℕ} {s : Shared} {i : Item} where
  pub text_run : {w : List ℕ} {new : List Item} → Front bytes i (text w new) v rest → Run names end (i ∷ []) (λ u. fixed w ∷ []) new bytes rest s s
  text_run {w} f = one_step names end f s s (λ u. fixed w ∷ []) refl (still_keeps (fixed w) s tt) refl tt

  pub number_keeps : {t : Shared} {ds : ℕ → List Demand} {new : ℕ → List Item} {n : ℕ} → Front bytes i (numeral_lead ds new) v rest → n ≡ value v
      → verdict names (end - length bytes) (ds (value v)) ≡ None → Keeps s (word (numeral n) (ds n) ∷ []) t → Run names end (i ∷ []) (λ u. word (numeral n) (ds n) ∷ []) (new n) bytes rest s t
  number_keeps {t} {ds} f e met keeps =
      let spelt : v ≡ numeral (value v) = number_is v (spelling_of f f.word) in
      rw e (one_step names end f s t (λ u. word (numeral (value v)) (ds (value v)) ∷ []) met (subst (λ (w : List ℕ). Keeps s (word w (ds (value v)) ∷ []) t) (sym spelt) (rw e at keeps))
      (ap (λ (w : List ℕ). word w (ds (value v)) ∷ []) (sym spelt)) tt)

  pub number_run : {ds : ℕ → List Demand} {new : ℕ → List Item} {n : ℕ} → Front bytes i (numeral_lead ds new) v rest → n ≡ value v
      → verdict names (end - length bytes) (ds (value v)) ≡ None → ((k : ℕ) → IsStill (ds k)) → Run names end (i ∷ []) (λ u. word (numeral n) (ds n) ∷ []) (new n) bytes rest s s
  number_run {ds} {n = n} f e met still = number_keeps f e met (still_keeps (word (numeral n) (ds n)) s (still n))

  pub keyword_keeps : {t : Shared} {w : List ℕ} {ds : List Demand} {new : List Item} → Front bytes i (keyword w ds new) v rest → verdict names (end - length bytes) ds ≡ None
      → Keeps s (word w ds ∷ []) t → Run names end (i ∷ []) (λ u. word w ds ∷ []) new bytes rest s t
  keyword_keeps {t} {w} {ds} f met keeps = one_step names end f s t (λ u. word w ds ∷ []) met keeps refl tt

  pub keyword_run : {w : List ℕ} {ds : List Demand} {new : List Item} → Front bytes i (keyword w ds new) v rest → ((at : ℕ) → verdict names at ds ≡ None) → IsStill ds
      → Run names end (i ∷ []) (λ u. word w ds ∷ []) new bytes rest s s
  keyword_run {w} {ds} f met still = keyword_keeps f (met (end - length bytes)) (still_keeps (word w ds) s still)

  pub check_run : {d : Naming → Demand} {b : ℕ} {new : List Item} → Front bytes i (check (d (name_of names)) b new) v rest
      → verdict names (end - length bytes) (d (name_of names) ∷ []) ≡ None → IsStill (d (name_of names) ∷ []) → Run names end (i ∷ []) (λ u. behind (d u) ∷ []) new bytes rest s s
  check_run {d} f met still = one_step names end f s s (λ u. behind (d u) ∷ []) met (still_keeps (behind (d (name_of names))) s still) refl tt

  pub name_run : {ds : List Demand} {new : List ℕ → List Item} {g : ℕ} → Front bytes i (name_lead ds new) v rest → number_of names.symbols v ≡ Some g
      → verdict names (end - length bytes) ds ≡ None → IsStill ds → Run names end (i ∷ []) (λ u. symbol (u g) ds ∷ []) (new (name_of names g)) bytes rest s s
  name_run {ds} {g = g} f e met still =
      let same : name_of names g ≡ v = ap (λ o. unwrap_or o []) (found_is_named names v g e) in
      rw same (one_step names end f s s (λ u. symbol (u g) ds ∷ []) (rw e met) (still_keeps (symbol v ds) s still) (rw same refl) (name_found names v g e, tt))

  pub variable_run : {ds : List Demand} {new : List Item} {x : ℕ} → Front bytes i (variable_lead ds new) v rest → IsBarNumber v (Some x) → verdict names (end - length bytes) ds ≡ None
      → IsStill ds → Run names end (i ∷ []) (λ u. word (codes "|" ++ numeral x) (in_range 1 0 (suc largest) x ∷ ds) ∷ []) new bytes rest s s
  variable_run {ds} {x = x} f e met still =
      let read = bar_read v x e in
      let spelt = bar_is v (spelling_of f f.word) in
      rw read.0 (one_step names end f s s (λ u. word (codes "|" ++ numeral (value (drop 1 v))) (in_range 1 0 (suc largest) (value (drop 1 v)) ∷ ds) ∷ []) (rw read.1 met)
      (still_keeps (word v (in_range 1 0 (suc largest) (value (drop 1 v)) ∷ ds)) s still) (ap (λ (w : List ℕ). word w (in_range 1 0 (suc largest) (value (drop 1 v)) ∷ ds) ∷ []) (sym spelt)) tt)

  pub position_run : {new : List Item} {p : List ℕ} → Front bytes i (position_lead new) v rest → p ≡ places v → verdict names (end - length bytes) (are_places 0 (places v)) ≡ None
      → Run names end (i ∷ []) (λ u. position p ∷ []) new bytes rest s s
  position_run f e met =
      rw e (one_step names end f s s (λ u. position (places v) ∷ []) met (still_keeps (word v (are_places 0 (places v))) s (places_still (places v) 0))
      (ap (λ (w : List ℕ). word w (are_places 0 (places v)) ∷ []) (sym (place_is v (spelling_of f f.word)))) tt)

pub is_told : (v t : Option (CertificateCause × ℕ)) → v ≡ t → IsTold v t
is_told v None e = tt
is_told v (Some r) e = e

-- ---- demands that are met, or not

pub out_of_range : (names : NameTable) (place least bound n q : ℕ) (ds : List Demand) → q ≡ place → (nat_le least n && nat_lt n bound) ≡ false
    → verdict names place (in_range 0 least bound n ∷ ds) ≡ Some (bad_number, q)
out_of_range names place least bound n q ds e h = let z : place + 0 ≡ q = omega (arith, e) in rw h (ap (λ (k : ℕ). Some (bad_number, k)) z)

-- ---- what a word of the code has read, where nothing was refused before
module _ {names : NameTable} {end : ℕ} {marks : Naming → List Mark} {s : Reading} {t : Bool} where
  pub go : {from to : List Item} {rest : Bor (List ℕ)} → t ≡ is_some s.refused → t ≡ false → Run names end from marks to s.left.now rest.now s.shares s.shares
      → Reads names end from marks to s (record { left = rest; refused = s.refused; shares = s.shares })
  go e q r = went (none_now e q) (none_now e q) (front_same s.shares.texts s.shares.texts refl) r

  pub stop : {i : Item} {to : List Item} {e : CertError} → t ≡ is_some s.refused → t ≡ false → IsStuckAt names end i s.left.now s.shares (told e)
      → Reads names end (i ∷ []) marks to s (record { left = s.left; refused = Some e; shares = s.shares })
  stop {i} {e = e} some q h = stopped e (none_now some q) refl (front_same s.shares.texts s.shares.texts refl) (stuck_stops names end i s.left.now s.shares (told e) h)

-- ---- demands of several words

pub in_range_then : (names : NameTable) (place least bound n : ℕ) (ds : List Demand) (t : Option (CertificateCause × ℕ)) → (nat_le least n && nat_lt n bound) ≡ true
    → verdict names place ds ≡ t → verdict names place (in_range 0 least bound n ∷ ds) ≡ t
in_range_then names place least bound n ds t h e = rw h e

pub arity_met : (names : NameTable) (f n : ℕ) (t : Bool) → number_of names.symbols (name_of names f) ≡ Some f → t ≡ is_number n (arity_at names f) → meets names (has_arity (name_of names f) n) ≡ t
arity_met names f n t h e = ap (λ o. is_number n (option_and_then (arity_at names) o)) h ∙ sym e

pub counted_there : (names : NameTable) (place n most : ℕ) (what : Counted) → most ≡ limit what → n ≤ most → verdict names place (is_few what n ∷ []) ≡ None
counted_there names place n most what m le = rw (le-leb n (limit what) (omega (arith, m, le))) refl

pub counted_out : (names : NameTable) (place n q most : ℕ) (what : Counted) → q ≡ place → most ≡ limit what → most < n → counted_as what ≡ what
    → verdict names place (is_few what n ∷ []) ≡ Some (too_many what, q)
counted_out names place n q most what e m lt same = rw (lt-leb n (limit what) (omega (arith, m, lt))) cc

-- what the code counts is told as what it is
pub as_counted : (what : counts.CertCount) → counted_as (counted_view what) ≡ counted_view what
as_counted counting.Pairs = refl
as_counted _ = refl

-- the bytes of a whole word
pub word_text : (w v bytes rest : List ℕ) → IsLeadRead (keyword w [] []) bytes v rest → bytes ≡ w ++ rest
word_text w v bytes rest h =
    let f = found_there (keyword w [] []) bytes h.there in
    let whole : bytes ≡ w ++ f.rest = f.parts ∙ ap (λ (x : List ℕ). x ++ f.rest) (text_is w f.word_of f.spelt) in
    whole ∙ ap (λ (x : List ℕ). w ++ x) (sym (ap (drop (length w)) whole ∙ drop-append_seam w f.rest) ∙ sym h.rest)
