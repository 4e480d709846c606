-- The item below the others, up to the end of an opening.
use Rattle.cert_text.proofs.Prelude.{◌≡◌, inl, inr, ℕ, zero, suc, Bool, true, false, not, List, [], ◌∷◌, ◌++◌, length, Option, Some, None, codes, refl, sym, ap, ◌∙◌, subst, Automaton, Version}
use Rattle.cert_text.proofs.Prelude.{first_version, second_version, Uses, in_full, by_number, version_of, Naming, Demand, fits_answer, Mark, fixed, word, demands_of, number_for, measure_marks}
use Rattle.cert_text.proofs.Prelude.{simplifications_marks, body_marks, answer_marks, automata_marks, shared_automata, Item, opening, heading, between, line, shared_line, text, shared_count}
use Rattle.cert_text.proofs.Prelude.{automata_left, automaton_end, simplified, body, pairs_from, entries_from, heads_from, measure, behind_automata, leads, Takes, Moves, Opening, ortho_opening}
use Rattle.cert_text.proofs.Prelude.{quasi_opening, simplified_opening, certificate_for, never_ends, AreAbove, BeginsList, same_item, read_marks, moves_path}
use Rattle.cert_grammar.proofs.ScanLaws.{completed}
use Rattle.cert_laws.proofs.Asking.{measure_asks, simplifications_ask}
use Rattle.cert_laws.proofs.LeadTables.{In}
use Rattle.cert_laws.proofs.Reached.{same_taken}
use Rattle.cert_openings.proofs.Late.{IsInBody, judges, NoKind, late_none, heading_none}
use Rattle.cert_text.proofs.Ahead.{step_by, above_path}
use Rattle.cert_grammar.specs.Prelude.{start_line}
use Rattle.cert_grammar.specs.Scans.{spelling}

-- behind the first line
abbrev IsLow : Version → Item → Type 0
IsLow v (shared_line g) = v ≡ second_version
IsLow v (shared_count g) = v ≡ second_version
IsLow v (automata_left n g) = v ≡ second_version
IsLow v (automaton_end n g) = v ≡ second_version
IsLow v (simplified g) = v ≡ second_version
IsLow v (body u g) = v ≡ u
IsLow v (measure u) = v ≡ u
IsLow v (pairs_from u (suc n)) = v ≡ u
IsLow v (entries_from u n) = v ≡ u
IsLow v (heads_from n) = v ≡ second_version
IsLow v _ = ⊥

-- ---- one mark, which is not the word of a peak

abbrev asks_peak : List Demand → Bool
asks_peak [] = false
asks_peak (fits_answer told given ∷ ds) = not told
asks_peak (_ ∷ ds) = asks_peak ds

abbrev is_early : Mark → Bool
is_early m = not (asks_peak (demands_of m))

automata_low : (v : Version) (n : ℕ) (g : Option Bool) → v ≡ second_version → IsLow v (behind_automata n g)
automata_low v zero g e = e
automata_low v (suc n) g e = e

abbrev New : Version → List Item → Type 0
New v new = AreAbove (IsLow v) (new ++ [])

not_peak : (v u : Version) (m : Mark) (g : Option Bool) → is_early m ≡ true → m ≡ word (codes "peak") (fits_answer false g ∷ []) → New v (between line ∷ start_line u ∷ [])
not_peak v u m g h e = let both : true ≡ false = sym h ∙ ap is_early e in absurd cc

one_low : (v : Version) (i : Item) (m : Mark) (new : List Item) → is_early m ≡ true → Takes i m new → IsLow v i → New v new
one_low v (measure first_version) m new f h x = step_by (New v) (measure first_version) m new h (search (inl))
one_low v (measure second_version) m new f h x = step_by (New v) (measure second_version) m new h (search (inl))
one_low v (pairs_from u zero) m new f h x = absurd x
one_low v i m new f h x = step_by (New v) i m new h (search (inl, inr, automata_low, not_peak))

-- ---- the marks of an opening

abbrev Early : List Mark → Type 0
Early [] = Unit {0}
Early (m ∷ ms) = (is_early m ≡ true) × Early ms

no_peak : (ds : List Demand) → judges ds ≡ false → asks_peak ds ≡ false
no_peak [] e = refl
no_peak (fits_answer told given ∷ ds) e = absurd cc
no_peak (_ ∷ ds) e = no_peak ds e

early : (ms : List Mark) → NoKind ms → Early ms
early [] h = tt
early (m ∷ ms) h = (ap not (no_peak (demands_of m) h.0), early ms h.1)

both : (a b : List Mark) → Early a → Early b → Early (a ++ b)
both [] b h k = k
both (m ∷ a) b h k = (h.0, both a b h.1 k)

body_early : (o : Opening) (x : Naming) (u : Uses) (g : Option Bool) → Early (body_marks x u g (certificate_for o []))
body_early ortho_opening x u g = (refl, (refl, tt))
body_early (quasi_opening m) x u g = (refl, (refl, both (measure_marks x m) [] (early _ (late_none (measure_marks x m) (measure_asks ⊥ IsInBody m x))) tt))
body_early (simplified_opening ss o) x u g =
    let steps = simplifications_marks x u ss in
    (refl, (refl, (refl, both steps _ (early steps (late_none steps (simplifications_ask ⊥ IsInBody tt (λ n. tt) (λ n. tt) ss x u))) (body_early o x u g))))

-- ---- the first line tells the version

-- behind a text with which an item begins
after : (i : Item) (bytes : List ℕ) (items : List Item) (ms : List Mark) (t : List Item) (b q : List ℕ) → In (text bytes items) (leads i) → (h : Moves (fixed bytes ∷ ms) (i ∷ []) b t q)
    → Moves ms (items ++ []) h.1 t q
after i bytes items ms t b q n h =
    let own : Takes i (fixed bytes) items = record { lead = text bytes items; word_of = bytes; among = n; spelt = completed (spelling bytes); mark = refl; items = refl } in
    subst (λ (x : List Item). Moves ms (x ++ []) h.1 t q)
    (same_taken i (fixed bytes) (fixed bytes) h.0 items b h.2.takes own h.2.there (record { rest = h.1; parts = h.2.text; ends = refl })).items h.3

abbrev first_line : Version → List ℕ
first_line first_version = codes "concon 1\n"
first_line second_version = codes "concon 2\n"

-- from it on all is low
low : (v : Version) (i : Item) (ms : List Mark) (t : List Item) (b q : List ℕ) → IsLow v i → Early ms → Moves ms (i ∷ []) b t q → AreAbove (IsLow v) t
low v i ms t b q x e h = above_path (IsLow v) (λ m. is_early m ≡ true) Early (λ m ms f. f) (one_low v) ms (i ∷ []) t e (moves_path ms (i ∷ []) t b q h) (inl x)

headed_low : (v : Version) (g : Option Bool) (ms : List Mark) (t : List Item) (b q : List ℕ) → Early ms → Moves (fixed (first_line v) ∷ ms) (heading g ∷ []) b t q → AreAbove (IsLow v) t
headed_low first_version g ms t b q e h = low first_version (body first_version g) ms t _ q refl e (after (heading g) _ _ ms t b q (inl refl) h)
headed_low second_version g ms t b q e h = low second_version (shared_line g) ms t _ q refl e (after (heading g) _ _ ms t b q (inr (inl refl)) h)

answer_low : (g : Option Bool) (v : Version) (ms : List Mark) (t : List Item) (b q : List ℕ) → Early ms → Moves (answer_marks g ++ fixed (first_line v) ∷ ms) (opening ∷ []) b t q
    → AreAbove (IsLow v) t
answer_low None first_version ms t b q e h = low first_version (body first_version None) ms t _ q refl e (after opening _ _ ms t b q (inr (inr (inl refl))) h)
answer_low None second_version ms t b q e h = low second_version (shared_line None) ms t _ q refl e (after opening _ _ ms t b q (inr (inr (inr (inl refl)))) h)
answer_low (Some true) v ms t b q e h = headed_low v (Some true) ms t h.1 q e (after opening _ _ (fixed (first_line v) ∷ ms) t b q (inl refl) h)
answer_low (Some false) v ms t b q e h = headed_low v (Some false) ms t h.1 q e (after opening _ _ (fixed (first_line v) ∷ ms) t b q (inr (inl refl)) h)

read_low : (u : Uses) (x : Naming) (bs : List Automaton) (g : Option Bool) (o : Opening) (t : List Item) (b q : List ℕ) → Moves (read_marks x u bs g o []) (opening ∷ []) b t q
    → AreAbove (IsLow (version_of u)) t
read_low in_full x bs g o t b q h = answer_low g first_version _ t b q (body_early o x in_full g) h
read_low (by_number f) x bs g o t b q h =
    let lines = fixed (codes "shared ") ∷ number_for shared_automata (length bs) ∷ fixed (codes "\n") ∷ automata_marks x bs in
    answer_low g second_version (lines ++ body_marks x (by_number f) g (certificate_for o [])) t b q
    (both lines _ (early lines (heading_none (by_number f) bs x).1) (body_early o x (by_number f) g)) h

-- ---- one list is left

list_pairs : (v : Version) (n : ℕ) → BeginsList v (pairs_from v (suc n))
list_pairs first_version n = inr (n, refl)
list_pairs second_version n = inr (inl (n, refl))

pub list_entries : (v : Version) (n : ℕ) → BeginsList v (entries_from v n)
list_entries first_version n = inl (n, refl)
list_entries second_version n = inl (n, refl)

low_list : (v : Version) (i : Item) → IsLow v i → (never_ends i ≡ true → ⊥) → BeginsList v i
low_list v (pairs_from u (suc n)) x f = rw x (list_pairs u n)
low_list v (entries_from u n) x f = rw x (list_entries u n)
low_list v (heads_from n) x f = rw x (inr (inr (n, refl)))
low_list v (measure first_version) x f = absurd (f refl)
low_list v (measure second_version) x f = absurd (f refl)
low_list v (pairs_from u zero) x f = absurd x
low_list v _ x f = absurd (search)

pub last_list : (x : Naming) (u : Uses) (bs : List Automaton) (g : Option Bool) (o : Opening) (i : Item) (b q : List ℕ) → Moves (read_marks x u bs g o []) (opening ∷ []) b (i ∷ []) q
    → (never_ends i ≡ true → ⊥) → BeginsList (version_of u) i
last_list x u bs g o i b q h f = by (read_low u x bs g o (i ∷ []) b q h)
  where
    by : AreAbove (IsLow (version_of u)) (i ∷ []) → BeginsList (version_of u) i
    by (inl y) = low_list (version_of u) i y f
    by (inr e) = absurd (f (ap never_ends (same_item i (between line) e)))
