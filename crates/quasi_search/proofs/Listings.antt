-- Listings that were made, and those that could not be paid.
use Rattle.std.proofs.Common.{◌≡◌, ◌<◌, List, [], ◌∷◌, Vec, Global, Option, None, Some, Result, Ok, refl}
use Rattle.rewriting.specs.Prelude.{Term, System}
use Rattle.unifier_run.specs.Overlaps.{Overlap}
use Rattle.cc_count.specs.Counts.{Counts, Spends}
use Rattle.reach.specs.declared.listed.Entry.{Entry}
use Rattle.search_spaces.specs.Listings.{listing_cost}
use Rattle.term_core.specs.declared.terms.NoMemory.{NoMemory}
use Rattle.pair_search.specs.Answers.{WalkAnswers}
use Rattle.cc_count.specs.declared.Sought.{Sought}
use Rattle.cert_model.specs.declared.evidence.PairEvidence.{PairEvidence}
use Rattle.cc_count.specs.declared.Sought.TheVariants.{Spent}
use Rattle.search_answers.proofs.Walking.{item_is_dear, item_bare}
use Rattle.pair_search.proofs.Composed.{goes_behind}
use Rattle.quasi_space.specs.QuasiItems.{QuasiItem, make_listing, quasi_item_cost, GivesQuasi}
use Rattle.quasi_search.specs.Listed.{ListedAnswers}

module _ (sys : System) (o : Overlap) (t : Term) (a b : Counts) where
  abbrev item : QuasiItem
  item = make_listing (listing_cost sys o.pair.conditions t)

  -- a listing that is made gives nothing, and the walk goes on
  pub listing_made : (rest : List QuasiItem) (l : Vec Entry Global) → ListedAnswers sys o t a b (Ok (Some l)) → (c : Counts) (r : Result (Sought PairEvidence) NoMemory)
      → WalkAnswers quasi_item_cost (GivesQuasi sys o) rest b c r → WalkAnswers quasi_item_cost (GivesQuasi sys o) (item ∷ rest) a c r
  listing_made rest l (is, s) c r h =
      goes_behind quasi_item_cost (GivesQuasi sys o) (item ∷ []) rest a b c r (item_bare quasi_item_cost (GivesQuasi sys o) item a b s (λ e g. g.0)) h

  module _ (f : Option (Vec Entry Global)) (other : (l : Vec Entry Global) → f ≡ Some l → ⊥) (h : ListedAnswers sys o t a b (Ok f)) where
    too_dear : (a.left < listing_cost sys o.pair.conditions t) × Spends a a.left b
    too_dear = go f other h
      where
        go : (g : Option (Vec Entry Global)) → ((l : Vec Entry Global) → g ≡ Some l → ⊥) → ListedAnswers sys o t a b (Ok g)
            → (a.left < listing_cost sys o.pair.conditions t) × Spends a a.left b
        go None none k = k
        go (Some l) none k = absurd (none l refl)

    pub listing_stops : (rest : List QuasiItem) → WalkAnswers quasi_item_cost (GivesQuasi sys o) (item ∷ rest) a b (Ok Spent)
    listing_stops rest = item_is_dear quasi_item_cost (GivesQuasi sys o) item a b rest too_dear.0 too_dear.1
