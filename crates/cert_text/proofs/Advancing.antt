-- What one call of `Pairs::next` reads, or refuses.
use Rattle.cert_text.proofs.Prelude.{codes, IsCertificateText, ◌≡◌, ◌+◌, inl, inr, ◌≤◌, ◌==◌, ℕ, suc, List, [], ◌∷◌, ◌++◌, length, drop, take, Option, Some, None, IfSome, IfNone, refl, sym, ap, ◌∙◌}
use Rattle.cert_text.proofs.Prelude.{subst, arith, eqb-true, length_push, append_cancel_left, drop_whole, Automaton, NameTable, pair_entry_view, name_of, Version, second_version, pairs_marks, closing}
use Rattle.cert_text.proofs.Prelude.{CertificateCause, syntax, bad_share, Naming, Mark, IsCertificateRefused, Item, pairs_from, entries_from, heads_from, Shared, nothing_shared, never_both}
use Rattle.cert_text.proofs.Prelude.{BeginsEntry, Opening, ortho_opening, quasi_opening, simplified_opening, certificate_for, uses_with, IsRead, IsReadTo, with_begun, one_reading, bytes_apart}
use Rattle.cert_text.proofs.Prelude.{CertError, told, IsRefusedAs, Run, IsFront, run_then, as_run, walks_text, EvidenceUses, IsPlainBy, AreBehind, WithinEntry, IsStoppedWhere, ReadsWhere, entry_at}
use Rattle.cert_text.proofs.Prelude.{head_at, same_item, counts_pairs, alone, stop_behind, stopped_where, Reading, HasRead, IsAll, ReadsOn, IsAtEnd, place_of, EndsMeasure, IsNext, read_marks, IsUpTo}
use Rattle.cert_text.proofs.Prelude.{read_more}
use Rattle.std.proofs.Math.Seq.{take-append_seam}
use Rattle.cert_model.specs.declared.model.PairEntry.{PairEntry}
use Rattle.cert_sharing.proofs.FirstUses.{texts_length}
use Rattle.cert_shares.specs.declared.shares.SoFar.{SoFar}
use Rattle.cert_openings.proofs.Entries.{whole_is_text, text_is_whole, allowed_more}
use Rattle.cert_reading.proofs.ListMarks.{pairs_use}
use Rattle.cert_reading.proofs.EntryItems.{IsSame, symbol_same, symbol_stopped, symbol_run}
use Rattle.cert_text.proofs.Runs.{run_read, refused_as, refused_as_told, refused_behind}
use Rattle.cert_text.proofs.EntryStops.{one_rest, entry_stands, in_entry}
use Rattle.certificates.specs.Certificates as math
use Rattle.cert_grammar.specs.Items as Items
use Rattle.cert_words.specs.declared.reading.Reading as code

-- the reading of a text with these bytes left
abbrev pub up_to : NameTable → List ℕ → List ℕ → Reading
up_to names bytes left = record { names = names; bytes = bytes; place = place_of bytes left }

-- ---- behind a measure the text goes on as behind nothing

same_at : (v : Version) (item : Item) → EndsMeasure v item → (b : List ℕ) → BeginsEntry b → IsSame v item b
same_at v (entries_from u n) x b h = rw x (symbol_same u n _ _ _ (entry_at u n) b h)
same_at v (heads_from n) x b h = rw x (symbol_same second_version n _ _ _ (head_at n) b h)
same_at v _ x b h = absurd x

symbols_early : (v : Version) (item : Item) → EndsMeasure v item → AreBehind v 2 (item ∷ []) → ⊥
symbols_early v item s (inl h) = rw h.1 at s
symbols_early v item s (inr e) = rw (same_item item (Items.between Items.line) e) at s

symbols_place : (v : Version) (item : Item) (b q : List ℕ) → EndsMeasure v item → WithinEntry v 1 b (item ∷ []) q
symbols_place v item b q s = record { early = λ h. absurd (symbols_early v item s h); going = λ e. rw (same_item item (pairs_from v 2) e) at s }

next_stop : (names : NameTable) (end : ℕ) (v : Version) (n : ℕ) (item : Item) (b : List ℕ) (sa : Shared) (t : Option (CertificateCause × ℕ)) → IsNext v item n b
    → IsStoppedWhere (WithinEntry v n b) names end (pairs_from v n ∷ []) b sa t → IsStoppedWhere (WithinEntry v n b) names end (item ∷ []) b sa t
next_stop names end v n item b sa t (inl e) h = rw e h
next_stop names end v n item b sa t (inr x) h =
    rw x.1 (symbol_stopped names end v item b (same_at v item x.0 b x.2) (WithinEntry v 1 b) [] sa t (symbols_place v item b b x.0) (rw x.1 at h))

next_run : (names : NameTable) (end : ℕ) (v : Version) (n : ℕ) (item : Item) (f : Naming → List Mark) (to : List Item) (b r : List ℕ) (sa sb : Shared) → IsNext v item n b
    → (f (name_of names) ≡ [] → ⊥) → Run names end (pairs_from v n ∷ []) f to b r sa sb → Run names end (item ∷ []) f to b r sa sb
next_run names end v n item f to b r sa sb (inl e) some h = rw e h
next_run names end v n item f to b r sa sb (inr x) some h = symbol_run names end v item b (same_at v item x.0 b x.2) f to r sa sb some (rw x.1 at h)

-- ---- from what the code says

pub next_read : (names : NameTable) (v : Version) (shared : List Automaton) (end n : ℕ) (s t : code.Reading) (found : Option PairEntry)
    → IfSome found (λ p. ReadsWhere (WithinEntry v n s.left.now) names end (pairs_from v n ∷ []) (λ u. pairs_marks u (uses_with v names shared) n (pair_entry_view p ∷ []))
    (pairs_from v (suc n) ∷ []) s t) → IfNone found (ReadsWhere (WithinEntry v n s.left.now) names end (pairs_from v n ∷ []) (λ u. closing) [] s t)
    → IsFront s.shares.texts t.shares.texts × ((e : CertError) → s.refused ≡ None → t.refused ≡ Some e
    → IsStoppedWhere (WithinEntry v n s.left.now) names end (pairs_from v n ∷ []) s.left.now s.shares (told e))
next_read names v shared end n s t None h k = (k.front, λ e none q. stopped_where e none q k)
next_read names v shared end n s t (Some p) h k = (h.front, λ e none q. stopped_where e none q h)

-- as the code holds the version and the shared automata
pub up_to_by : {v w : Version} {shared all : List Automaton} {names : NameTable} {bytes left : List ℕ} {count : ℕ} {now : Shared} → w ≡ v → all ≡ shared
    → IsUpTo w all names bytes left count now → IsUpTo v shared names bytes left count now
up_to_by e f u = rw (← e, ← f) u

-- ---- shares

-- what came behind is let go of, whatever was begun of an automaton
pub held_back : (v : Version) (shared : List Automaton) (names : NameTable) (bytes left : List ℕ) (count : ℕ) (now after back : Shared) (known : SoFar)
    → IsFront now.texts after.texts → known ≡ record { texts = length now.texts; used = now.used; unfolds_to = now.unfolds_to }
    → back ≡ record { texts = take known.texts after.texts; begun = after.begun; used = known.used; unfolds_to = known.unfolds_to } → IsUpTo v shared names bytes left count now
    → IsUpTo v shared names bytes left count back
held_back v shared names bytes left count now after back known front is kept u = record {
  opening = u.opening;
  entries = u.entries;
  given = u.given;
  item = u.item;
  read = subst (λ (k : ℕ). IsReadTo names bytes u.opening u.entries (place_of bytes left) v (drop k shared) left) (ap (λ (z : Shared). z.used) (sym same)) u.read;
  counted = u.counted;
  can_share = u.can_share;
  known = (u.known.0, texts ∙ u.known.1);
  plain = u.plain;
  plain_shared = u.plain_shared;
  run = record { walks = u.run.walks; found = u.run.found; shares = λ le b. let k = u.run.shares le b in (k.0, k.1 ∙ sym same) };
  next = u.next;
}
  where
    texts : back.texts ≡ now.texts
    texts = cc (ap (λ (z : Shared). z.texts) kept, ap (λ (k : SoFar). k.texts) is, front.1, take-append_seam now.texts front.0)

    same : with_begun [] back ≡ with_begun [] now
    same = cc (texts, ap (λ (z : Shared). z.used) kept, ap (λ (k : SoFar). k.used) is, ap (λ (z : Shared). z.unfolds_to) kept, ap (λ (k : SoFar). k.unfolds_to) is)

-- ---- one entry more

plain_more : (v : Version) (all : List Automaton) (o : Opening) (es : List math.PairEntry) (p : math.PairEntry) → IsPlainBy v all (certificate_for o es)
    → EvidenceUses v all p.evidence → IsPlainBy v all (certificate_for o (es ++ p ∷ []))
plain_more v all ortho_opening es p h k = pairs_use v all es p h k
plain_more v all (quasi_opening m) es p h k = (h.0, pairs_use v all es p h.1 k)
plain_more v all (simplified_opening ss o) es p h k = (allowed_more (simplified_opening ss o) es (es ++ p ∷ []) v h.0, h.1, plain_more v all o es p h.2 k)

none_if : {A : Type 0} (t : Option A) → ((x : A) → t ≡ Some x → ⊥) → t ≡ None
none_if None never = refl
none_if (Some x) never = absurd (never x refl)

module _ {v : Version} {shared : List Automaton} {names : NameTable} {bytes left : List ℕ} {count : ℕ} {now : Shared} (u : IsUpTo v shared names bytes left count now) where
  abbrev pub n : ℕ
  n = count + 1

  is_n : n ≡ suc count
  is_n = omega arith

  next : IsNext v u.item n left
  next = rw is_n u.next

  -- an entry is read
  abbrev ReadsPair : math.PairEntry → List ℕ → Shared → Type 0
  ReadsPair p rest sb = Run names (length bytes) (pairs_from v n ∷ []) (λ x. pairs_marks x (uses_with v names shared) n (p ∷ [])) (pairs_from v (suc n) ∷ []) left rest now sb

  within : length left ≤ length bytes
  within = let r = u.read in omega (arith, r.read.place, ap length r.is_rest)

  -- an opening and entries that are read up to here leave these bytes, and are those
  left_there : (o : Opening) (es : List math.PairEntry) (r : IsRead names bytes o es (place_of bytes left)) → (o ≡ u.opening) × (es ≡ u.entries) × (r.rest ≡ left)
  left_there o es r = let same = one_reading names bytes o u.opening es u.entries (place_of bytes left) r u.read.read in (same.opening, same.entries, same.rest ∙ u.read.is_rest)

  longer : (p : math.PairEntry) (rest : List ℕ) (sb : Shared) → ReadsPair p rest sb
      → Run names (length bytes) (Items.opening ∷ []) (λ x. read_marks x (uses_with v names shared) shared u.given u.opening (u.entries ++ p ∷ []))
      (pairs_from v (suc n) ∷ []) bytes rest nothing_shared sb
  longer p rest sb r =
      let w = uses_with v names shared in
      let number : n ≡ suc (length u.entries) = is_n ∙ ap suc (sym u.counted) in
      as_run names (length bytes) (Items.opening ∷ []) (pairs_from v (suc n) ∷ []) (pairs_from v (suc n) ∷ []) _ _ bytes rest nothing_shared sb refl
      (λ x. ap (λ (k : ℕ). read_marks x w shared u.given u.opening u.entries ++ pairs_marks x w k (p ∷ [])) number ∙ read_more x w shared u.given u.opening u.entries p)
      (run_then names (length bytes) (Items.opening ∷ []) (u.item ∷ []) (pairs_from v (suc n) ∷ []) (λ x. read_marks x w shared u.given u.opening u.entries)
      (λ x. pairs_marks x w n (p ∷ [])) bytes left rest nothing_shared now sb u.run
      (next_run names (length bytes) v n u.item (λ x. pairs_marks x w n (p ∷ [])) (pairs_from v (suc n) ∷ []) left rest now sb next (λ e. cc) r))

  -- its marks change no text of a shared automaton
  texts_kept : (p : math.PairEntry) (rest : List ℕ) (sb : Shared) → ReadsPair p rest sb → sb.texts ≡ now.texts
  texts_kept p rest sb r =
      let keeps = r.shares within [] in
      let counts = (counts_pairs (p ∷ []) (name_of names) (uses_with v names shared) n).along now.texts [] now.used now.unfolds_to in
      sym (ap (λ (z : Shared). z.texts) keeps.1) ∙ ap (λ (z : Shared). z.texts) counts.1.after

  pub held_on : {sb : Shared} (p : math.PairEntry) (rest : List ℕ) → EvidenceUses v shared p.evidence → ReadsPair p rest sb → IsUpTo v shared names bytes rest n sb
  held_on {sb} p rest plain r = record {
    opening = u.opening;
    entries = u.entries ++ p ∷ [];
    given = u.given;
    item = pairs_from v (suc n);
    read = run_read v shared names bytes rest u.given u.opening (u.entries ++ p ∷ []) (pairs_from v (suc n) ∷ []) u.can_share (plain_more v shared u.opening u.entries p u.plain plain)
        u.plain_shared (longer p rest sb r);
    counted = (let long = length_push u.entries p in let old = u.counted in omega (arith, long, old));
    can_share = u.can_share;
    known = (u.known.0, texts_kept p rest sb r ∙ u.known.1);
    plain = plain_more v shared u.opening u.entries p u.plain plain;
    plain_shared = u.plain_shared;
    run = longer p rest sb r;
    next = inl refl;
  }

  pub reads_on : {sb : Shared} (p : math.PairEntry) (rest : List ℕ) → EvidenceUses v shared p.evidence → ReadsPair p rest sb → ReadsOn (up_to names bytes left) p (up_to names bytes rest)
  unfolding held_on
  reads_on p rest plain r o es h = let there = left_there o es h in rw (there.0, there.1) (held_on p rest plain r).read.read

  -- what is left is the last line
  left_last : (o : Opening) (es : List math.PairEntry) → HasRead (up_to names bytes left) o es → IsAll (up_to names bytes left) o es → left ≡ codes "end\n"
  left_last o es h k =
      let there = left_there o es h in
      let whole = text_is_whole names bytes u.opening u.entries (subst (IsCertificateText names bytes) (cc (there.0, there.1)) k) in
      sym (one_rest v shared names bytes left count now u whole.at whole.read) ∙ whole.last

  pub never_whole : {sb : Shared} (p : math.PairEntry) (rest : List ℕ) → ReadsPair p rest sb
      → (o : Opening) (es : List math.PairEntry) → HasRead (up_to names bytes left) o es → IsAll (up_to names bytes left) o es → ⊥
  never_whole p rest r o es h k = bytes_apart 112 101 _ _ refl
      (sym (walks_text names (pairs_marks (name_of names) (uses_with v names shared) n (p ∷ [])) _ _ (r.walks within [])) ∙ left_last o es h k)

  module _ (rest : List ℕ) (sb : Shared) (r : Run names (length bytes) (pairs_from v n ∷ []) (λ x. closing) [] left rest now sb) where
    left_text : left ≡ codes "end\n" ++ rest
    left_text = walks_text names closing _ _ (r.walks within [])

    -- each shared automaton is used there
    none_left : drop now.used shared ≡ []
    none_left =
        let used = eqb-true now.used (length now.texts) (alone (now.used == length now.texts) (bad_share, 0) (r.shares within []).0.0) in
        drop_whole shared now.used (used ∙ ap length u.known.1 ∙ texts_length names shared)

    pub at_end : rest ≡ [] → IsAtEnd (up_to names bytes left)
    at_end e o es h =
        let same = one_reading names bytes o u.opening es u.entries (place_of bytes left) h u.read.read in
        whole_is_text names bytes o es (place_of bytes left) h (same.left ∙ u.read.is_left ∙ none_left) ((left_there o es h).2 ∙ left_text ∙ ap (λ (w : List ℕ). codes "end\n" ++ w) e)

    pub no_entry : (o : Opening) (es : List math.PairEntry) (p : math.PairEntry) (place : ℕ) → HasRead (up_to names bytes left) o es → IsRead names bytes o (es ++ p ∷ []) place → ⊥
    no_entry o es p place h k = entry_stands v shared names bytes left count now u o es p place h k _ left_text

    pub not_whole : (rest ≡ [] → ⊥) → (o : Opening) (es : List math.PairEntry) → HasRead (up_to names bytes left) o es → IsAll (up_to names bytes left) o es → ⊥
    not_whole some o es h k = some (append_cancel_left (codes "end\n") rest [] (sym left_text ∙ left_last o es h k))

    pub behind_refused : (at : ℕ) → (rest ≡ [] → ⊥) → at ≡ place_of bytes rest → IsCertificateRefused names bytes syntax at
    behind_refused at some e =
        let w = uses_with v names shared in
        let run = run_then names (length bytes) (Items.opening ∷ []) (u.item ∷ []) [] (λ x. read_marks x w shared u.given u.opening u.entries) (λ x. closing) bytes left rest
        nothing_shared now sb u.run (next_run names (length bytes) v n u.item (λ x. closing) [] left rest now sb next (λ q. cc) r) in
        refused_behind names bytes rest (λ x. read_marks x w shared u.given u.opening u.entries ++ closing) at refl some e run

  module _ (e : CertError) (s : IsStoppedWhere (WithinEntry v n left) names (length bytes) (pairs_from v n ∷ []) left now (told e)) where
    -- seen from the first byte on
    stops : IsStoppedWhere (WithinEntry v n left) names (length bytes) (Items.opening ∷ []) bytes nothing_shared (told e)
    stops = stop_behind (WithinEntry v n left) names (length bytes) (Items.opening ∷ []) (u.item ∷ []) (λ x. read_marks x (uses_with v names shared) shared u.given u.opening u.entries)
        bytes left nothing_shared now (told e) [] u.run (next_stop names (length bytes) v n u.item left now (told e) next s)

    pub refused_there : IsRefusedAs names bytes e
    refused_there = refused_as (WithinEntry v n left) names bytes e refl stops

    -- nothing is told of a text that goes on
    pub not_told : (o : Opening) (es : List math.PairEntry) → HasRead (up_to names bytes left) o es → IsAll (up_to names bytes left) o es → told e ≡ None
    not_told o es h k = none_if (told e) (λ x q. never_both names bytes (certificate_for o es) x.0 x.1 k (refused_as_told names bytes e x.0 x.1 refused_there q))

    pub not_told_at : (o : Opening) (es : List math.PairEntry) (p : math.PairEntry) (place : ℕ) → HasRead (up_to names bytes left) o es → IsRead names bytes o (es ++ p ∷ []) place → told e ≡ None
    not_told_at o es p place h k = none_if (told e) (λ x q. in_entry v shared names bytes left count now u x ((rw (q, is_n) at stops) (omega arith)) o es p place h k)
