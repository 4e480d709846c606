-- Pairs of listed terms of the left side of a condition.
use Rattle.std.specs.Prelude.{ℕ, ◌↔◌, List, ◌∷◌, map, Result, IsTrue}
use Rattle.rewriting.specs.Prelude.{Term, System}
use Rattle.unifier_run.specs.Irreducible.{DoAllClash}
use Rattle.unifier_run.specs.Overlaps.{Overlap}
use Rattle.term_core.specs.declared.terms.NoMemory.{NoMemory}
use Rattle.cc_count.specs.Counts.{Counts}
use Rattle.reach_lists.specs.Laws.{EachOf}
use Rattle.reach_lists.specs.Solutions.{Reached}
use Rattle.reach.specs.EntryView.{entry_view}
use Rattle.search_spaces.specs.Listings.{listing, listing_cost, pairs_of}
use Rattle.pair_search.specs.Answers.{WalkAnswers}
use Rattle.cc_count.specs.declared.Sought.{Sought}
use Rattle.cert_model.specs.declared.evidence.PairEvidence.{PairEvidence}
use Rattle.quasi_space.specs.Laws.{IsReductAt}
use Rattle.quasi_space.specs.QuasiItems.{QuasiItem, make_listing, two_reducts, quasi_item_cost, GivesQuasi}
use Rattle.quasi_search.specs.declared.reducts.Reduct.{Reduct}

abbrev pub reduct_view : Reduct → Reached
reduct_view r = entry_view r.listed.now

abbrev pub reducts_view : List Reduct → List Reached
reducts_view rs = map reduct_view rs

-- it is told whether the term is absolutely irreducible
abbrev pub IsJudged : System → Reduct → Type 0
IsJudged sys r = IsTrue r.is_irreducible ↔ DoAllClash sys (reduct_view r).term

-- it is listed for condition k of an overlap, and judged
pub record IsReductOf (sys : System) (o : Overlap) (k : ℕ) (r : Reduct) : Type 0 where
  pub judged : IsJudged sys r
  pub listed : IsReductAt sys o k (reduct_view r)

-- the pairs of a term with others
abbrev pub pairs_with : Reached → List Reached → List (Reached × Reached)
pairs_with x ys = map (λ y. (x, y)) ys

-- the listing of the left side of condition k of an overlap, and then the pairs in it
abbrev pub condition_items : System → Overlap → ℕ → Term → List QuasiItem
condition_items sys o k t = make_listing (listing_cost sys o.pair.conditions t) ∷ map (two_reducts k) (pairs_of (listing sys o.pair.conditions t))

-- what a walk through pairs of such terms answers
abbrev pub PairsAnswer : ℕ → List Reduct → List (Reached × Reached) → Counts → Counts → Result (Sought PairEvidence) NoMemory → Type 0
PairsAnswer k rs pairs before after result =
    (sys : System) (o : Overlap) → EachOf (IsReductOf sys o k) rs → WalkAnswers quasi_item_cost (GivesQuasi sys o) (map (two_reducts k) pairs) before after result
