-- One overlap after the other.
use Rattle.std.proofs.Common.{ℕ, ◌≡◌, ◌+◌, ◌<◌, List, [], ◌∷◌, ◌++◌, map, take, drop, length, get_or, refl, sym, ap, ◌∙◌, subst₂}
use Rattle.std.proofs.lemmas.List.{map_more}
use Rattle.rewriting.specs.Lists.{IsAmong}
use Rattle.rewriting.proofs.Lists.{among_at, among_map}
use Rattle.unifier_run.specs.Overlaps as math
use Rattle.certificates.specs.Certificates as certificates
use Rattle.cert_model.specs.CertificateView.{pair_entry_view}
use Rattle.cert_model.specs.declared.model.PairEntry.{PairEntry}
use Rattle.critical_pairs.specs.View.{overlap_view}
use Rattle.critical_pairs.specs.declared.Overlap.{Overlap}
use Rattle.cc_count.specs.Counts.{Counts, Spends}
use Rattle.first_found.specs.Rows.{HasNone, AreFirsts, EndsAtRow, StopsInRow}
use Rattle.first_found.proofs.Rows.{firsts_more}
use Rattle.cc_count.proofs.Spending.{spends_both}
use Rattle.pair_search.proofs.Places.{split_at}

-- each overlap of the list is among those of the definitions
pub among_here : (xs : List Overlap) (i : ℕ) (x : Overlap) → i < length xs → x ≡ get_or xs i x → IsAmong (overlap_view x) (map overlap_view xs)
among_here xs i x l e = among_map overlap_view x xs (among_at xs i x x l e)

module _ (First : math.Overlap → certificates.PairEntry → ℕ → Type 0) where
  -- so far there are entries for the first overlaps, and this was paid
  abbrev pub IsSoFar : List Overlap → Counts → Counts → List PairEntry → Type 0
  IsSoFar done start here es = (n : ℕ) × Spends start n here × AreFirsts First (map overlap_view done) (map pair_entry_view es) n

  module _ (xs : List Overlap) (i : ℕ) (x : Overlap) (below : i < length xs) (is : x ≡ get_or xs i x) (start here after : Counts) (es : List PairEntry)
      (far : IsSoFar (take i xs) start here es) where
    split_here : map overlap_view xs ≡ map overlap_view (take i xs) ++ overlap_view x ∷ map overlap_view (drop (i + 1) xs)
    split_here = split_at overlap_view xs i x below ∙ ap (λ z. map overlap_view (take i xs) ++ overlap_view z ∷ map overlap_view (drop (i + 1) xs)) (sym is)

    taken_here : map overlap_view (take (i + 1) xs) ≡ map overlap_view (take i xs) ++ overlap_view x ∷ []
    taken_here = map_more overlap_view xs i x below ∙ ap (λ z. map overlap_view (take i xs) ++ overlap_view z ∷ []) (sym is)

    pub entry_more : (entry : certificates.PairEntry) → (m : ℕ) × Spends here m after × First (overlap_view x) entry m
        → (new : List PairEntry) → map pair_entry_view new ≡ map pair_entry_view es ++ entry ∷ [] → IsSoFar (take (i + 1) xs) start after new
    entry_more entry (m, unit, f) new put = (
      far.0 + m,
      spends_both start here after far.0 m far.1 unit,
      subst₂ (λ (rows : List math.Overlap) (results : List certificates.PairEntry). AreFirsts First rows results (far.0 + m)) (sym taken_here) (sym put)
          (firsts_more First (map overlap_view (take i xs)) (map pair_entry_view es) far.0 (overlap_view x) entry m (far.0 + m) far.2 f refl),
    )

    row_held : (Stops : math.Overlap → ℕ → Type 0) (m : ℕ) → Spends here m after → Stops (overlap_view x) m
        → (n : ℕ) × Spends start n after × StopsInRow First Stops (map overlap_view xs) n
    row_held Stops m unit s = (
      far.0 + m,
      spends_both start here after far.0 m far.1 unit,
      record {
        before = map overlap_view (take i xs);
        row = overlap_view x;
        behind = map overlap_view (drop (i + 1) xs);
        split = split_here;
        results = map pair_entry_view es;
        paid = far.0;
        firsts = far.2;
        part = m;
        stopped = s;
        up_to = refl;
      },
    )

    pub row_ends : (whole : math.Overlap → ℕ) → Spends here (whole (overlap_view x)) after → HasNone First (overlap_view x)
        → (n : ℕ) × Spends start n after × EndsAtRow First whole (map overlap_view xs) n
    row_ends whole unit none = row_held (λ o m. HasNone First o × (m ≡ whole o)) (whole (overlap_view x)) unit (none, refl)

    pub row_stops : (Stops : math.Overlap → ℕ → Type 0) → (m : ℕ) × Spends here m after × (after.left ≡ 0) × Stops (overlap_view x) m
        → (n : ℕ) × Spends start n after × (after.left ≡ 0) × StopsInRow First Stops (map overlap_view xs) n
    row_stops Stops (m, unit, end, s) = let (n, spends, there) = row_held Stops m unit s in (n, spends, end, there)
