-- What is known of shared automata behind a part that is read.
use Rattle.cert_reading.proofs.Prelude.{◌≡◌, ◌≤◌, ◌-◌, ℕ, List, [], ◌∷◌, ◌++◌, length, codes, slice_get, Some, None, sym, ap, ◌∙◌, arith, Automaton, NameTable, name_of, Version}
use Rattle.cert_reading.proofs.Prelude.{first_version, second_version, Naming, Mark, fixed, demands_of, use_mark, texts_of, number_in, AllNew, Shared, Item, texts_length, pick, pick_number}
use Rattle.cert_reading.proofs.Prelude.{IsStill, places_still, Counts, counts_still, counts_both, counts_put, counts_use, pick_stands, Reading, left_at, Run, Reads, read_run, open_before}
use Rattle.cert_reading.proofs.Prelude.{walks_shorter, line_marks, AreShared, Place, ReadsWhere, AreStill}
use Rattle.cert_reading.proofs.Stopping.{open_before_where, ran}
use Rattle.rewriting.proofs.Once.{same_some}

pub run_shorter : (names : NameTable) (end : ℕ) (from to : List Item) (f : Naming → List Mark) (b r : List ℕ) (s t : Shared) → length b ≤ end → Run names end from f to b r s t → length r ≤ end
run_shorter names end from to f b r s t le x =
    let less = walks_shorter names (f (name_of names)) (left_at end (from ++ []) b) (left_at end (to ++ []) r) (x.walks le []) in
    omega (arith, le, less)

-- what is known is known behind marks that end no automaton
pub known_where : {P : Place} {names : NameTable} {end : ℕ} {from to : List Item} {f : Naming → List Mark} {s t : Reading} (v : Version) (all : List Automaton)
    → ReadsWhere P names end from f to s t → (ns : List ℕ) → Counts (f (name_of names)) ns → AreShared v names all end s → AreShared v names all end t
known_where first_version all x ns c h = tt
known_where {P} {names} {end} {from} {to} {f} {s} {t} second_version all x ns c h = λ none.
    let was = open_before_where x none in
    let known = h was in
    let r = ran was none x in
    let texts = sym (ap (λ (z : Shared). z.texts) (r.shares known.0 []).1) ∙ ap (λ (z : Shared). z.texts) (c.along s.shares.texts [] s.shares.used s.shares.unfolds_to).1.after in
    (run_shorter names end from to f s.left.now t.left.now s.shares t.shares known.0 r, (known.1.0, texts ∙ known.1.1))

pub known_behind : {names : NameTable} {end : ℕ} {from to : List Item} {f : Naming → List Mark} {s t : Reading} (v : Version) (all : List Automaton) → Reads names end from f to s t
    → (ns : List ℕ) → Counts (f (name_of names)) ns → AreShared v names all end s → AreShared v names all end t
known_behind v all x ns c h = known_where v all x ns c h

-- the same of marks that ask nothing of shared automata
pub known_still : {names : NameTable} {end : ℕ} {from to : List Item} {f : Naming → List Mark} {s t : Reading} (v : Version) (all : List Automaton) → Reads names end from f to s t
    → AreStill (f (name_of names)) → AreShared v names all end s → AreShared v names all end t
known_still {names} {f = f} v all x still h = known_behind v all x [] (counts_still (f (name_of names)) still) h

-- the front of a line of overlaps or redexes uses no automaton
pub front_counts : (m : Mark) (first : ℕ) (p : List ℕ) (second : ℕ) → IsStill (demands_of m) → Counts (m ∷ line_marks first p second) []
front_counts m first p second h = counts_still (m ∷ line_marks first p second) (h, (tt, (tt, (tt, (places_still p 0, (tt, (tt, (tt, tt))))))))

-- ---- the line's end of a use

abbrev pub use_line : ℕ → List Mark
use_line n = fixed (codes " ") ∷ use_mark n ∷ fixed (codes "\n") ∷ []

line_counts : (n : ℕ) → Counts (use_line n) (n ∷ [])
line_counts n = counts_put (fixed (codes " ")) (use_mark n ∷ fixed (codes "\n") ∷ []) (n ∷ []) tt
    (counts_both (use_mark n ∷ []) (fixed (codes "\n") ∷ []) (n ∷ []) [] (counts_use n) (counts_still (fixed (codes "\n") ∷ []) (tt, tt)))

pub record UseFacts (names : NameTable) (all : List Automaton) (n : ℕ) : Type 0 where
  pub new : AllNew [] (texts_of names all)
  pub low : 1 ≤ n
  pub high : n ≤ length all

pub use_facts : {names : NameTable} {end : ℕ} {from to : List Item} {s t : Reading} (all : List Automaton) (n : ℕ) → AreShared second_version names all end s → t.refused ≡ None
    → Reads names end from (λ u. use_line n) to s t → UseFacts names all n
use_facts {names} {end} {from} {to} {s} {t} all n h none x =
    let known = h (open_before x none) in
    let r = read_run none x in
    let passes = ((line_counts n).along s.shares.texts [] s.shares.used s.shares.unfolds_to).1.into (r.shares known.0 []).0 in
    record { new = known.1.0; low = passes.0; high = omega (arith, texts_length names all, ap length known.1.1, passes.1) }

-- the automaton at its number's place has that number
pub number_there : (names : NameTable) (all : List Automaton) (a : Automaton) (n : ℕ) → UseFacts names all n → slice_get all (n - 1) ≡ Some a → number_in names all a ≡ n
number_there names all a n h stands =
    let same : pick all n ≡ a = same_some (slice_get all (n - 1)) (pick all n) a (pick_stands all n h.low h.high) stands in
    ap (number_in names all) (sym same) ∙ pick_number names all n h.new h.low h.high
