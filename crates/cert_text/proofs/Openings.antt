-- A text that is read up to its entries, or a whole peak.
use Rattle.cert_text.proofs.Prelude.{◌≡◌, inl, inr, ℕ, suc, Bool, true, false, List, [], ◌∷◌, ◌++◌, length, Option, Some, None, Result, Ok, Err, IfOk, codes, refl, sym, ap, ◌∙◌, subst, arith}
use Rattle.cert_text.proofs.Prelude.{append_assoc, append-nil, Automaton, MeasureCertificate, linear_measure, precedence_measure, Simplification, Certificate, peak_certificate, NameTable, name_of}
use Rattle.cert_text.proofs.Prelude.{largest, Version, first_version, second_version, in_full, by_number, HasMeasure, IsUnsimplified, number_in, IsCertificateText, in_range, is_few, simplifications}
use Rattle.cert_text.proofs.Prelude.{Naming, Mark, fixed, word, answer_marks, body_marks, heading_marks, measure_marks, peak_marks, simplifications_marks, closing, certificate_marks, Item, pairs_from}
use Rattle.cert_text.proofs.Prelude.{Shared, nothing_shared, AreStill, counts_still, counts_both, counts_body, measure_still, never_both, Opening, ortho_opening, quasi_opening, certificate_for}
use Rattle.cert_text.proofs.Prelude.{uses_with, BeginsEntry, IsOpened, CertError, Run, Reads, open_before, behind_measure, behind_version, first_marks, kind_mark, item_by, StepsUse, ApartUses}
use Rattle.cert_text.proofs.Prelude.{IsPlainBy, shared_marks, IsKnown, ArePlainAutomata, ReadsWhere, WithinOpening, BeforeEntries, AreShared, CanShare, other_below, then_where, as_marks_where}
use Rattle.cert_text.proofs.Prelude.{low_where, open_before_where, known_behind, known_where, found_by, Reading, place_of, IsNext, read_marks, IsUpTo, OpenedText, at_entries, whole, IsOpenedAs}
use Rattle.cert_text.proofs.Prelude.{IsRefusedBehind, steps_marks, opening_behind, opened_behind, CanStep, IsBegun, Uses, IsOpeningEnd, reads_anywhere, BeginsBody, Opened, opened_view}
use Rattle.certificates.specs.Prelude.{Peak}
use Rattle.cert_grammar.specs.WordMarks.{numeral}
use Rattle.cert_openings.proofs.Passes.{openings_pass}
use Rattle.cert_reading.proofs.KindMarks.{kind_still, first_still}
use Rattle.cert_text.proofs.Runs.{run_read, refused_behind}
use Rattle.cert_openings.proofs.Bare.{openings_end}
use Rattle.cert_text.specs.OpenedText.{IsAnswer, IsGood, IsBad}
use Rattle.cert_text.specs.Front.{ReadsOpening, IsStart}
use Rattle.cert_words.specs.declared.error.CertError.TheVariants.{CertSyntax}
use Rattle.cert_text.proofs.Fronts.{certificate_behind, read_behind, whole_behind, run_of, line_of, bad, entries_bad, no_end}
use Rattle.cert_grammar.specs.Items as Items
use Rattle.cert_words.specs.declared.reading.Reading as words
use Rattle.cert_reading.specs.declared.headings.Kind as kinds_of
use Rattle.cert_reading.specs.declared.headings.Kind.TheVariants as kinds

-- ---- what follows for each text that is opened

-- a text that is opened is refused behind its opening
pub late : (names : NameTable) (bytes : List ℕ) (r : Result Opened CertError) → IsAnswer names bytes r → IfOk r (λ o. IsRefusedBehind names bytes (opened_view o))
late names bytes (Err e) h = tt
late names bytes (Ok o) h = by (opened_view o) h.0
  where
    by : (t : OpenedText) → IsOpenedAs names bytes t → IsRefusedBehind names bytes t
    by (at_entries o r) h = λ e at k. openings_pass names bytes o r.place e at h.2 k
    by (whole c) h = λ e at k. never_both names bytes c e at h k

-- ---- the entries behind an opening

pub ready : (names : NameTable) (bytes rest : List ℕ) (steps : Option (List Simplification)) (o : Opening) (q : Reading) → q ≡ record { names = names; bytes = bytes; place = place_of bytes rest }
    → IsOpened names bytes (opening_behind steps o) (place_of bytes rest) → IsGood names bytes (opened_behind steps (at_entries o q))
ready names bytes rest None o q e h = rw e ((refl, refl, h), tt)
ready names bytes rest (Some ss) o q e h = rw e ((refl, refl, h), tt)

whole_there : (names : NameTable) (bytes : List ℕ) (steps : Option (List Simplification)) (c : Certificate) → IsCertificateText names bytes (certificate_behind steps c)
    → ((end : ℕ) → IsOpeningEnd bytes end → ⊥) → IsGood names bytes (opened_behind steps (whole c))
whole_there names bytes None c h k = (h, k)
whole_there names bytes (Some ss) c h k = (h, k)

-- nothing is known of shared automata in the first version
known_then : (v : Version) (shared : List Automaton) (names : NameTable) (bytes : List ℕ) (given : Option Bool) (o : Opening) (to : List Item) (t : words.Reading)
    → CanShare v shared → AreShared v names shared (length bytes) t → t.refused ≡ None
    → Run names (length bytes) (Items.opening ∷ []) (λ u. read_marks u (uses_with v names shared) shared given o []) to bytes t.left.now nothing_shared t.shares → IsKnown names shared t.shares
known_then second_version shared names bytes given o to t can known none run = (known none).1
known_then first_version shared names bytes given o to t can known none run =
    let body = counts_body (certificate_for o []) (name_of names) in_full given in
    let counts = rw append_assoc at (counts_both (first_marks given false) _ [] [] (counts_still (first_marks given false) (first_still given false)) body) in
    let texts : t.shares.texts ≡ [] = sym (ap (λ (z : Shared). z.texts) (run.shares (omega arith) []).1) ∙ ap (λ (z : Shared). z.texts) (counts.along [] [] 0 0).1.after in
    rw can (tt, texts)

-- what is plain behind steps
plain_behind : (v : Version) (shared : List Automaton) (steps : Option (List Simplification)) (c : Certificate) → IsUnsimplified c → CanStep v shared steps → IsPlainBy v shared c
    → IsPlainBy v shared (certificate_behind steps c)
plain_behind v shared None c u h p = p
plain_behind first_version shared (Some ss) c u h p = let e = h.0 in absurd cc
plain_behind second_version shared (Some ss) c u h p = (u, h.1, p)

abbrev pub line_of_kind : Option Bool → kinds_of.Kind → List Mark
line_of_kind given kind = kind_mark given kind ∷ fixed (codes "\n") ∷ []

-- ---- a body that begins with a measure, or with none

abbrev opening_of : Option MeasureCertificate → Opening
opening_of None = ortho_opening
opening_of (Some m) = quasi_opening m

abbrev kind_of : Option MeasureCertificate → kinds_of.Kind
kind_of None = kinds.Ortho
kind_of (Some m) = kinds.Quasi

abbrev part_marks : Naming → Option MeasureCertificate → List Mark
part_marks u None = []
part_marks u (Some m) = measure_marks u m

abbrev behind_part : Version → Option MeasureCertificate → Item
behind_part v None = pairs_from v 1
behind_part v (Some m) = behind_measure v m

abbrev CanMeasure : Version → Option MeasureCertificate → Type 0
CanMeasure v None = Unit {0}
CanMeasure v (Some m) = HasMeasure v m

part_same : (m : Option MeasureCertificate) (given : Option Bool) (u : Naming) (w : Uses) → line_of_kind given (kind_of m) ++ part_marks u m ≡ body_marks u w given (certificate_for (opening_of m) [])
part_same None given u w = refl
part_same (Some m) given u w = simp append-nil

part_still : (m : Option MeasureCertificate) (u : Naming) → AreStill (part_marks u m)
part_still None u = tt
part_still (Some m) u = measure_still m u

part_next : (v : Version) (m : Option MeasureCertificate) (b : List ℕ) → CanMeasure v m → BeginsEntry b → IsNext v (behind_part v m) 1 b
part_next v None b h x = inl refl
part_next v (Some (linear_measure es)) b h x = inr (refl, refl, x)
part_next first_version (Some (precedence_measure order)) b h x = absurd h
part_next second_version (Some (precedence_measure order)) b h x = inr (refl, refl, x)

part_plain : (v : Version) (shared : List Automaton) (steps : Option (List Simplification)) (m : Option MeasureCertificate) → CanStep v shared steps → CanMeasure v m
    → IsPlainBy v shared (certificate_for (opening_behind steps (opening_of m)) [])
part_plain v shared None None h k = tt
part_plain v shared None (Some m) h k = (k, tt)
part_plain first_version shared (Some ss) m h k = let e = h.0 in absurd cc
part_plain second_version shared (Some ss) None h k = (tt, h.1, tt)
part_plain second_version shared (Some ss) (Some m) h k = (tt, h.1, (k, tt))

module _ {names : NameTable} {bytes : List ℕ} {v : Version} {shared : List Automaton} {given : Option Bool} {steps : Option (List Simplification)} {s t : words.Reading}
    (m : Option MeasureCertificate) (b : IsBegun names bytes v shared given steps (line_of_kind given (kind_of m)) (item_by v (kind_of m) ∷ []) s)
    (part : ReadsWhere (WithinOpening v) names (length bytes) (item_by v (kind_of m) ∷ []) (λ u. part_marks u m) (behind_part v m ∷ []) s t)
    (begins : t.refused ≡ None → BeginsEntry t.left.now) (can : CanMeasure v m) where
  abbrev up_to : t.refused ≡ None → IsUpTo v shared names bytes t.left.now 0 t.shares
  up_to none =
      let was = open_before_where part none in
      let o = opening_behind steps (opening_of m) in
      let run = run_of b none (read_behind b (opening_of m) (λ is q p. p v) (λ u. part_same m given u (uses_with v names shared)) part) in
      let plain = part_plain v shared steps m (b.can_step was) can in
      record {
        opening = o;
        entries = [];
        given = given;
        item = behind_part v m;
        read = run_read v shared names bytes t.left.now given o [] (behind_part v m ∷ []) b.can_share plain (b.plain_shared was) run;
        counted = refl;
        can_share = b.can_share;
        known = known_then v shared names bytes given o (behind_part v m ∷ []) t b.can_share (known_where v shared part [] (counts_still _ (part_still m (name_of names))) b.known) none run;
        plain = plain;
        plain_shared = b.plain_shared was;
        run = run;
        next = part_next v m t.left.now can (begins none);
      }

  entries_read : ReadsOpening names bytes v shared (opening_behind steps (opening_of m)) t
  entries_read = record {
    up_to = up_to;
    opened = λ none. let r = (up_to none).read in record { read = r.read; begins = subst BeginsEntry (sym r.is_rest) (begins none) };
    refused = λ e q. entries_bad b e q part;
  }

-- as the code writes uses
pub opening_read : {names : NameTable} {bytes : List ℕ} {v w : Version} {shared : List Automaton} {steps : Option (List Simplification)} {kind : kinds_of.Kind} {r s t : words.Reading}
    (m : Option MeasureCertificate) → kind ≡ kind_of m → w ≡ v → BeginsBody names bytes v shared steps kind r
    → Reads names (length bytes) (Items.between Items.line ∷ []) (λ u. fixed (codes "\n") ∷ []) [] r s
    → ReadsWhere (WithinOpening w) names (length bytes) (item_by w (kind_of m) ∷ []) (λ u. part_marks u m) (behind_part w m ∷ []) s t
    → (t.refused ≡ None → BeginsEntry t.left.now) → CanMeasure w m → ReadsOpening names bytes v shared (opening_behind steps (opening_of m)) t
opening_read m e p b line part begins can = rw (← p) (entries_read m (line_of (kind_of m) e p refl b line) part begins can)

-- a peak that is read, where its text ends and where it goes on
pub record ReadsPeak (names : NameTable) (bytes : List ℕ) (steps : Option (List Simplification)) (p : Peak) (t : words.Reading) : Type 0 where
  pub refused : (e : CertError) → t.refused ≡ Some e → IsBad names bytes e
  pub goes_on : t.refused ≡ None → (t.left.now ≡ [] → ⊥) → (at : ℕ) → at ≡ place_of bytes t.left.now → IsBad names bytes (CertSyntax at)
  pub there : t.refused ≡ None → t.left.now ≡ [] → IsGood names bytes (opened_behind steps (whole (peak_certificate p)))

pub peak_read : {names : NameTable} {bytes : List ℕ} {v : Version} {shared : List Automaton} {given : Option Bool} {steps : Option (List Simplification)} {s t : words.Reading} (p : Peak)
    → IsBegun names bytes v shared given steps (line_of_kind given kinds.Peak) (Items.start_line v ∷ []) s → (t.refused ≡ None → ApartUses v shared p.apart)
    → Reads names (length bytes) (Items.start_line v ∷ []) (λ u. peak_marks u (uses_with v names shared) p ++ closing) [] s t → ReadsPeak names bytes steps p t
peak_read {names} {bytes} {v} {shared} {given} {steps} {s} {t} p b plain h = record {
  refused = λ e q. bad b e q (reads_anywhere h) (λ r x k o end i. no_end b r end (openings_end names bytes o end i));
  goes_on = λ none some at e. (refused_behind names bytes t.left.now _ at refl some e (run none), λ f place x end k. absurd (no_end b (open_before h none) end k));
  there = λ none ends.
      let was = open_before h none in
      whole_there names bytes steps c
      (found_by v (certificate_behind steps c) names shared given bytes nothing_shared t.shares refl b.can_share (plain_behind v shared steps c tt (b.can_step was) (plain none)) (b.plain_shared was)
      (rw ends at (run none))) (no_end b was);
}
  where
    c : Certificate
    c = peak_certificate p

    run : t.refused ≡ None → Run names (length bytes) (Items.opening ∷ []) (λ u. certificate_marks u (uses_with v names shared) shared given (certificate_behind steps c)) [] bytes t.left.now
        nothing_shared t.shares
    run none = run_of b none (whole_behind b c (λ u. refl) h)

-- ---- from the first line on

module _ {names : NameTable} {bytes : List ℕ} {given : Option Bool} {second : Bool} {s t u : words.Reading} (first : IsStart bytes s)
    (line : ReadsWhere BeforeEntries names (length bytes) (Items.opening ∷ []) (λ u. first_marks given second) (behind_version second given ∷ []) s t) where
  -- a text of the first version, behind the word of its kind
  pub first_begun : (kind : kinds_of.Kind) → second ≡ false
      → ReadsWhere BeforeEntries names (length bytes) (Items.body first_version given ∷ []) (λ u. kind_mark given kind ∷ []) (Items.between Items.line ∷ item_by first_version kind ∷ []) t u
      → IsBegun names bytes first_version [] given None (kind_mark given kind ∷ []) (Items.between Items.line ∷ item_by first_version kind ∷ []) u
  first_begun kind is next =
      record { can_share = refl; start = s; first = first; read = then_where (rw is at line) next; known = tt; plain_shared = λ x. tt; can_step = λ x. tt }

  -- a text of the second version, behind its shared automata
  pub second_begun : (all : List Automaton) → second ≡ true
      → ReadsWhere BeforeEntries names (length bytes) (Items.shared_line given ∷ []) (λ u. shared_marks u all) (Items.simplified given ∷ []) t u
      → (AreShared second_version names [] (length bytes) t → AreShared second_version names all (length bytes) u) → (u.refused ≡ None → ArePlainAutomata all)
      → IsBegun names bytes second_version all given None [] (Items.simplified given ∷ []) u
  second_begun all is shared known plain =
      let before : AreShared second_version names [] (length bytes) s = λ x. ((let long = ap length first.all_left in omega (arith, long)), (tt, ap (λ (z : Shared). z.texts) first.fresh)) in
      record {
        can_share = tt;
        start = s;
        first = first;
        read = as_marks_where (λ r x. simp (append_assoc, append-nil)) (then_where (rw is at line) shared);
        known = known (known_where second_version [] line [] (counts_still (first_marks given second) (first_still given second)) before);
        plain_shared = plain;
        can_step = λ r. tt;
      }

-- ---- steps before the body

steps_front : (a h s k : List Mark) → ((a ++ (h ++ [])) ++ []) ++ (s ++ k) ≡ (a ++ (h ++ s)) ++ k
steps_front a h s k = simp (append_assoc, append-nil)

abbrev pub count_marks : ℕ → List Mark
count_marks n = word (numeral n) (in_range 0 1 (suc largest) n ∷ is_few simplifications n ∷ []) ∷ fixed (codes "\n") ∷ []

module _ {names : NameTable} {bytes : List ℕ} {shared : List Automaton} {given : Option Bool} {s s1 s2 : words.Reading} (n : ℕ)
    (begun : IsBegun names bytes second_version shared given None [] (Items.simplified given ∷ []) s)
    (first : ReadsWhere BeforeEntries names (length bytes) (Items.simplified given ∷ []) (λ u. fixed (codes "simplify ") ∷ []) (Items.simplification_count ∷ Items.body second_version given ∷ []) s s1)
    (count : Reads names (length bytes) (Items.simplification_count ∷ []) (λ u. count_marks n) (Items.simplifications_of n) s1 s2) where
  -- the shared automata are known where the steps begin
  pub known_at_steps : AreShared second_version names shared (length bytes) s2
  known_at_steps = known_behind second_version shared count [] (counts_still (count_marks n) (tt, (tt, tt)))
      (known_where second_version shared first [] (counts_still (fixed (codes "simplify ") ∷ []) (tt, tt)) begun.known)

  -- of automata that are the shared ones
  pub steps_begin : {s3 t : words.Reading} (all : List Automaton) (ss : List Simplification) (kind : kinds_of.Kind) → all ≡ shared
      → Reads names (length bytes) (Items.simplifications_of n) (λ u. simplifications_marks u (by_number (number_in names all)) ss) [] s2 s3
      → (s3.refused ≡ None → length ss ≡ n) → (s3.refused ≡ None → StepsUse second_version all ss) → AreShared second_version names all (length bytes) s3
      → ReadsWhere BeforeEntries names (length bytes) (Items.body second_version given ∷ []) (λ u. kind_mark given kind ∷ []) (Items.between Items.line ∷ item_by second_version kind ∷ []) s3 t
      → IsBegun names bytes second_version shared given (Some ss) (kind_mark given kind ∷ []) (Items.between Items.line ∷ item_by second_version kind ∷ []) t
  steps_begin {s3} {t} all ss kind e steps counted plain known next =
      let low = Items.body second_version given in
      let b = rw (← e) at begun in
      let was : t.refused ≡ None → s.refused ≡ None = λ none. open_before_where first (open_before count (open_before steps (open_before_where next none))) in
      rw (← e) (record {
        can_share = tt;
        start = b.start;
        first = b.first;
        read = as_marks_where (λ none u. rw (← counted (open_before_where next none)) (steps_front (answer_marks given)
            (heading_marks u (by_number (number_in names all)) all) (steps_marks u (by_number (number_in names all)) (Some ss)) (kind_mark given kind ∷ [])))
            (then_where b.read (then_where first (then_where (low_where low (other_below low tt) count) (then_where (low_where low (other_below low tt) steps) next))));
        known = known_where second_version all next [] (counts_still (kind_mark given kind ∷ []) (kind_still given kind)) known;
        plain_shared = λ none. b.plain_shared (was none);
        can_step = λ none. (refl, plain (open_before_where next none));
      })
