-- Where an entry stands, no reader stops within it.
use Rattle.cert_text.proofs.Prelude.{◌≡◌, ◌⊎◌, inl, inr, ◌<◌, ◌≤◌, ℕ, suc, List, [], ◌∷◌, ◌++◌, length, drop, codes, refl, sym, ap, ◌∙◌, subst, arith, cases_lt, Automaton, PairEntry, NameTable}
use Rattle.cert_text.proofs.Prelude.{name_of, Version, CertificateCause, Mark, pairs_marks, Item, leads, opening, pairs_from, taken, items_of, Left, Shared, nothing_shared, first_sound, Move, Moves}
use Rattle.cert_text.proofs.Prelude.{Opening, uses_with, IsRead, bytes_apart, Meet, ahead, behind_it, meet, read_more, Gone, gone, gone_rest, gone_along, one_reading, Walks, goes_where, AreBehind}
use Rattle.cert_text.proofs.Prelude.{IsBehind, BeginsList, WithinEntry, StopsWhere, place_of, EndsMeasure, IsNext, read_marks, IsUpTo, entries_from, heads_from}
use Rattle.cert_laws.proofs.FirstRefusals.{read_of, lead_move}
use Rattle.cert_text.proofs.Ahead.{past, pair_step, later_moves, last_pair, list_step}
use Rattle.cert_text.proofs.Low.{list_entries}
use Rattle.cert_text.proofs.SameMarks.{no_front}

-- ---- moves

moves_split : (a b : List Mark) (s t : List Item) (bytes rest : List ℕ) → Moves (a ++ b) s bytes t rest → (u : List Item) × (q : List ℕ) × Moves a s bytes u q × Moves b u q t rest
moves_split [] b s t bytes rest h = (s, bytes, (refl, refl), h)
moves_split (m ∷ a) b [] t bytes rest h = absurd h
moves_split (m ∷ a) b (i ∷ s) t bytes rest h = let r = moves_split a b (h.0 ++ s) t h.1 rest h.3 in (r.0, r.1, (h.0, h.1, h.2, r.2), r.3)

-- the steps of a reader
walks_moves : (names : NameTable) (ms : List Mark) (l k : Left) → Walks names ms l k → Moves ms l.items l.bytes k.items k.bytes
walks_moves names [] l k w = (ap (λ (x : Left). x.items) w, ap (λ (x : Left). x.bytes) w)
walks_moves names (m ∷ ms) l k w =
    let s = w.1 in
    let there = first_sound (leads s.item) s.lead l.bytes s.first in
    let move = lead_move s.item s.lead l.bytes there.0 there.1 in
    let to = goes_where names l w.0 m s in
    let rest = subst (λ (x : Left). Moves ms x.items x.bytes k.items k.bytes) to (walks_moves names ms w.0 k w.2) in
    let behind = drop (taken s.lead l.bytes) l.bytes in
    let new = items_of s.lead (read_of s.lead l.bytes) in
    subst (λ (x : List Item). Moves (m ∷ ms) x l.bytes k.items k.bytes) (sym s.items) (new, behind, subst (λ (x : Mark). Move s.item x l.bytes behind new) (sym s.mark) move, rest)

-- ---- the first move from the item that is next

as_list : (v : Version) (i : Item) → EndsMeasure v i → BeginsList v i
as_list v (entries_from u n) x = rw x (list_entries u n)
as_list v (heads_from n) x = rw x (inr (inr (n, refl)))
as_list v _ x = absurd x

next_step : (v : Version) (i : Item) (n : ℕ) (m : Mark) (left behind : List ℕ) (new : List Item) → IsNext v i n left → Move i m left behind new → AreBehind v n (new ++ [])
next_step v i n m left behind new (inl e) h = pair_step v n n m new (omega arith) (rw e at h.takes)
next_step v i n m left behind new (inr x) h = rw x.1 (list_step v i m left behind new (as_list v i x.0) x.2 h)

-- ---- no reader stops within an entry that stands there

module _ (v : Version) (shared : List Automaton) (names : NameTable) (bytes left : List ℕ) (count : ℕ) (now : Shared) (u : IsUpTo v shared names bytes left count now) where
  -- the marks up to here
  abbrev gone_marks : List Mark
  gone_marks = read_marks (name_of names) (uses_with v names shared) shared u.given u.opening u.entries

  here : Moves gone_marks (opening ∷ []) bytes (u.item ∷ []) left
  here = walks_moves names gone_marks _ _ (u.run.walks (omega arith) [])

  -- whoever reads this opening and these entries comes here
  comes_here : (es : List PairEntry) (at : ℕ) (a : Gone names bytes u.opening es at) (s : List Item) (q : List ℕ)
      → Moves (read_marks (name_of names) a.uses a.shared a.answer u.opening u.entries) (opening ∷ []) bytes s q → (s ≡ u.item ∷ []) × (q ≡ left)
  comes_here es at a s q h = by (meet gone_marks f (opening ∷ []) (u.item ∷ []) s bytes left q here h)
    where
      f : List Mark
      f = read_marks (name_of names) a.uses a.shared a.answer u.opening u.entries

      by : Meet gone_marks f (u.item ∷ []) left s q → (s ≡ u.item ∷ []) × (q ≡ left)
      by (ahead [] e k) = (sym k.0, sym k.1)
      by (ahead (m ∷ ms) e k) = absurd (no_front (name_of names) a.uses (uses_with v names shared) a.shared shared a.answer u.given u.opening u.entries m ms e)
      by (behind_it m ms e k) = absurd (no_front (name_of names) (uses_with v names shared) a.uses shared a.shared u.given a.answer u.opening u.entries m ms e)

  -- what is read with the same entries leaves the same bytes
  pub one_rest : (at : ℕ) (r : IsRead names bytes u.opening u.entries at) → r.rest ≡ left
  one_rest at r =
      let a = gone names bytes u.opening u.entries at r in
      let al = gone_along names bytes u.opening u.entries at a in
      sym (gone_rest names bytes u.opening u.entries at r) ∙ (comes_here u.entries at a (al.item ∷ []) a.rest al.moves).1

  -- an entry that is read more stands behind the same opening and entries
  more_there : (o : Opening) (es : List PairEntry) (p : PairEntry) (place : ℕ) → IsRead names bytes o es (place_of bytes left) → IsRead names bytes o (es ++ p ∷ []) place
      → Gone names bytes u.opening (u.entries ++ p ∷ []) place
  more_there o es p place before after =
      let same = one_reading names bytes o u.opening es u.entries (place_of bytes left) before u.read.read in
      gone names bytes u.opening (u.entries ++ p ∷ []) place (rw (same.opening, same.entries) at after)

  -- a later number stands behind it, and no last line before it
  entry_there : (p : PairEntry) (place : ℕ) (a : Gone names bytes u.opening (u.entries ++ p ∷ []) place)
      → IsBehind v (suc count) (gone_along names bytes u.opening (u.entries ++ p ∷ []) place a).item × ((w : List ℕ) → left ≡ codes "end" ++ w → ⊥)
  entry_there p place a =
      let x = name_of names in
      let more = pairs_marks x a.uses (suc (length u.entries)) (p ∷ []) in
      let al = gone_along names bytes u.opening (u.entries ++ p ∷ []) place a in
      let parts = moves_split (read_marks x a.uses a.shared a.answer u.opening u.entries) more (opening ∷ []) (al.item ∷ []) bytes a.rest
      (rw (read_more x a.uses a.shared a.answer u.opening u.entries p) al.moves) in
      let same = comes_here (u.entries ++ p ∷ []) place a parts.0 parts.1 parts.2 in
      let on = rw (same.0, same.1) at parts.3 in
      let behind = later_moves v (suc count) (drop 1 more) (on.0 ++ []) (al.item ∷ []) on.1 a.rest on.3 (next_step v u.item (suc count) _ left on.1 on.0 u.next on.2) in
      (last_pair v (suc count) al.item behind al.may_end, λ w e. bytes_apart 112 101 _ _ refl (sym on.2.text ∙ e))

  pub entry_stands : (o : Opening) (es : List PairEntry) (p : PairEntry) (place : ℕ) → IsRead names bytes o es (place_of bytes left) → IsRead names bytes o (es ++ p ∷ []) place
      → (w : List ℕ) → left ≡ codes "end" ++ w → ⊥
  entry_stands o es p place before after = (entry_there p place (more_there o es p place before after)).1

  -- behind the entry no reader stops within it
  never_behind : (i : Item) (ms : List Mark) (t : List Item) (b q : List ℕ) → IsBehind v (suc count) i → ((w : List ℕ) → left ≡ codes "end" ++ w → ⊥) → Moves ms (i ∷ []) b t q
      → WithinEntry v (suc count) left t q → ⊥
  never_behind i [] t b q (m, is, less) not_end h p = by (cases_lt (suc (suc count)) m)
    where
      by : (suc (suc count) < m) ⊎ (m ≤ suc (suc count)) → ⊥
      by (inl lt) = not_end q (p.early (rw (← h.0) (inl (m, is, lt))))
      by (inr le) = let equal : m ≡ suc (suc count) = omega (arith, le, less) in p.going (sym h.0 ∙ ap (λ (j : Item). j ∷ []) (is ∙ ap (pairs_from v) equal))
  never_behind i (n ∷ ms) t b q (m, is, less) not_end h p =
      let step = pair_step v (suc (suc count)) m n h.0 (omega (arith, less)) (rw is at h.2.takes) in
      not_end q (p.early (later_moves v (suc (suc count)) ms (h.0 ++ []) t h.1 q h.3 step))

  pub in_entry : (e : CertificateCause × ℕ) (s : StopsWhere (WithinEntry v (suc count) left) names (length bytes) (opening ∷ []) bytes nothing_shared e)
      → (o : Opening) (es : List PairEntry) (p : PairEntry) (place : ℕ) → IsRead names bytes o es (place_of bytes left) → IsRead names bytes o (es ++ p ∷ []) place → ⊥
  in_entry e s o es p place before after =
      let a = more_there o es p place before after in
      let there = entry_there p place a in
      let further = past a s in
      never_behind _ further.0 _ a.rest _ there.0 there.1 further.1 s.place
