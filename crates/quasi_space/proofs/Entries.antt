-- The first valid evidence for an overlap is one; entries with valid evidence settle their overlaps.
use Rattle.std.proofs.Common.{ℕ, ◌≡◌, ◌<◌, ◌≤◌, List, [], ◌∷◌, None, sym, ap, ◌∙◌, subst}
use Rattle.rewriting.specs.Rules.{System}
use Rattle.unifier_run.specs.Overlaps.{Overlap}
use Rattle.certificates.specs.Prelude.{PairEvidence, infeasible_pair, PairEntry}
use Rattle.valid_certificates.specs.Kinds.{quasi}
use Rattle.valid_certificates.specs.PairEvidence.{IsPairJudged}
use Rattle.valid_certificates.specs.Entries.{AreSettled, triple_of}
use Rattle.first_found.specs.Rows.{AreFirsts, EndsAtRow, StopsInRow}
use Rattle.first_found.proofs.Items.{first_within, first_once, stopped_within}
use Rattle.first_found.proofs.Rows.{firsts_once, firsts_within, none_of_rows, ends_within, ends_none, rows_stopped_within}
use Rattle.search_spaces.specs.Entries.{entry_for}
use Rattle.search_spaces.proofs.Entries.{tries_once}
use Rattle.quasi_space.specs.QuasiItems.{QuasiItem, try_refuting, make_listing, try_join, try_reducts, quasi_item_cost, IsTried, GivesQuasi, quasi_items}
use Rattle.quasi_space.specs.Quasi.{IsQuasiEntry, StopsAtQuasi, items_cost, all_items_cost}

module _ (sys : System) where
  tried_once : (o : Overlap) (item : QuasiItem) (d e : PairEvidence) → IsTried sys o item d → IsTried sys o item e → d ≡ e
  tried_once o (try_refuting r) d e (x, h, i) (y, k, j) = i ∙ ap infeasible_pair (tries_once sys o.pair.conditions r x y h k) ∙ sym j
  tried_once o (make_listing n) d e h k = absurd h
  tried_once o (try_join x y) d e h k = h ∙ sym k
  tried_once o (try_reducts n x y) d e h k = h ∙ sym k

  entry_once : (o : Overlap) (x y : PairEntry) (n m : ℕ) → IsQuasiEntry sys o x n → IsQuasiEntry sys o y m → (n ≡ m) × (x ≡ y)
  entry_once o x y n m (d, f, p) (e, g, q) =
      let same = first_once (GivesQuasi sys o) quasi_item_cost (quasi_items sys o) d e n m f g in
      (same.0, p ∙ ap (entry_for o) (tried_once o same.1.0 d e same.1.1.0 same.1.2.0) ∙ sym q)

  entry_within : (o : Overlap) (x : PairEntry) (n : ℕ) → IsQuasiEntry sys o x n → n ≤ items_cost sys o
  entry_within o x n (e, f, p) = first_within (GivesQuasi sys o) quasi_item_cost (quasi_items sys o) e n f

  stops_within : (o : Overlap) (n : ℕ) → StopsAtQuasi sys o n → n < items_cost sys o
  stops_within o n s = stopped_within (GivesQuasi sys o) quasi_item_cost (quasi_items sys o) n s

  pub entries_settle : (os : List Overlap) (es : List PairEntry) (n : ℕ) → AreFirsts (IsQuasiEntry sys) os es n → AreSettled quasi sys os es
  entries_settle [] [] n h = tt
  entries_settle [] (e ∷ es) n h = absurd h
  entries_settle (o ∷ os) [] n h = absurd h
  entries_settle (o ∷ os) (e ∷ es) n (m, k, (evidence, f, is), rest, up) =
      (ap triple_of is, subst (λ z. IsPairJudged quasi sys o z.evidence None) (sym is) f.gives.1, entries_settle os es k rest)

  -- the entries for all overlaps
  module _ (os : List Overlap) where
    pub entries_once : (es fs : List PairEntry) (n m : ℕ) → AreFirsts (IsQuasiEntry sys) os es n → AreFirsts (IsQuasiEntry sys) os fs m → (n ≡ m) × (es ≡ fs)
    entries_once es fs n m h k = firsts_once (IsQuasiEntry sys) entry_once os es fs n m h k

    pub entries_within : (es : List PairEntry) (n : ℕ) → AreFirsts (IsQuasiEntry sys) os es n → n ≤ all_items_cost sys os
    entries_within es n h = firsts_within (IsQuasiEntry sys) (items_cost sys) entry_within os es n h

    pub row_within : (n : ℕ) → EndsAtRow (IsQuasiEntry sys) (items_cost sys) os n → n ≤ all_items_cost sys os
    row_within n h = ends_within (IsQuasiEntry sys) (items_cost sys) entry_within os n h

    pub row_has_none : (n : ℕ) → EndsAtRow (IsQuasiEntry sys) (items_cost sys) os n → (es : List PairEntry) (m : ℕ) → AreFirsts (IsQuasiEntry sys) os es m → ⊥
    row_has_none n h es m k = none_of_rows (IsQuasiEntry sys) entry_once os es m (ends_none (IsQuasiEntry sys) (items_cost sys) entry_within os n h) k

    pub row_stopped_within : (n : ℕ) → StopsInRow (IsQuasiEntry sys) (StopsAtQuasi sys) os n → n < all_items_cost sys os
    row_stopped_within n s = rows_stopped_within (IsQuasiEntry sys) (items_cost sys) entry_within (StopsAtQuasi sys) stops_within os n s
