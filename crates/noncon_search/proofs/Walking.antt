-- The listing of a start, before its pairs.
use Rattle.std.proofs.Common.{◌+◌, ◌<◌, [], ◌∷◌, refl, arith}
use Rattle.rewriting.specs.Prelude.{Term, System}
use Rattle.cops_names.specs.NameTable.{NameTable}
use Rattle.cc_count.specs.Counts.{Counts, Spends}
use Rattle.cc_count.proofs.Spending.{spends_same}
use Rattle.first_found.specs.Spaces.{spent}
use Rattle.search_spaces.specs.Listings.{listing, listing_cost}
use Rattle.search_spaces.specs.PeakItems.{make_listing, peak_item_cost, peak_items_of, GivesPeak}
use Rattle.search_answers.specs.Walks.{EndsSo}
use Rattle.search_answers.proofs.Walking.{Walking, item_is_dear}
use Rattle.noncon_search.specs.Answers.{pair_items}

module _ (names : NameTable) (sys : System) (t : Term) (a b : Counts) where
  pub listing_made : Spends a (listing_cost sys [] t) b → Walking peak_item_cost (GivesPeak names sys) (peak_items_of sys t) a b (pair_items t (listing sys [] t))
  listing_made s =
      record {
        done = make_listing (listing_cost sys [] t) ∷ [];
        split = refl;
        none = ((λ c g. g.0), tt);
        paid = spends_same a b (listing_cost sys [] t) (listing_cost sys [] t + 0) (omega arith) s;
      }

  pub listing_stops : (a.left < listing_cost sys [] t) × Spends a a.left b → EndsSo peak_item_cost (GivesPeak names sys) (peak_items_of sys t) a b spent
  listing_stops (short, s) = item_is_dear peak_item_cost (GivesPeak names sys) (make_listing (listing_cost sys [] t)) a b (pair_items t (listing sys [] t)) short s
