use Rattle.std.proofs.Common.{ℕ, drop, map}
use Rattle.rewriting.specs.Rules.{System}
use Rattle.unifier_run.specs.Overlaps.{Overlap}
use Rattle.cc_count.specs.Counts.{Spends}
use Rattle.reach_lists.specs.Laws.{EachOf}
use Rattle.search_spaces.specs.Listings.{pairs_of}
use Rattle.search_answers.proofs.Walking.{Walking}
use Rattle.quasi_space.specs.QuasiItems.{two_reducts, quasi_item_cost, GivesQuasi}
use Rattle.quasi_search.specs.Reducts.{reducts_view, IsReductOf}
use Rattle.quasi_search.proofs.reducts.try_pairs.Given as goal

abbrev pub invariant-firsts : goal.invariant-firsts
invariant-firsts l = record {
  walking : (sys : System) (o : Overlap) → EachOf (IsReductOf sys o l.cond) l.fn.reducts
      → Walking quasi_item_cost (GivesQuasi sys o) (map (two_reducts l.cond) (pairs_of (reducts_view l.fn.reducts))) l.fn.budget l.budget
      (map (two_reducts l.cond) (pairs_of (reducts_view (drop l.i l.fn.reducts))));
  kept : (n : ℕ) × Spends l.fn.budget n l.budget;
}
