use Rattle.std.proofs.Common.{ℕ, ◌∷◌, drop, map}
use Rattle.rewriting.specs.Rules.{System}
use Rattle.unifier_run.specs.Overlaps.{Overlap}
use Rattle.cc_count.specs.Counts.{Spends}
use Rattle.reach_lists.specs.Laws.{EachOf}
use Rattle.search_answers.proofs.Walking.{Walking}
use Rattle.quasi_space.specs.QuasiItems.{two_reducts, quasi_item_cost, GivesQuasi}
use Rattle.quasi_search.specs.Reducts.{reduct_view, reducts_view, pairs_with, IsReductOf}
use Rattle.quasi_search.proofs.reducts.try_with.Given as goal

abbrev pub invariant-later : goal.invariant-later
invariant-later l = record {
  walking : (sys : System) (o : Overlap) → EachOf (IsReductOf sys o l.cond) (l.first ∷ l.later)
      → Walking quasi_item_cost (GivesQuasi sys o) (map (two_reducts l.cond) (pairs_with (reduct_view l.first) (reducts_view l.later))) l.fn.budget l.budget
      (map (two_reducts l.cond) (pairs_with (reduct_view l.first) (reducts_view (drop l.second-index l.later))));
  kept : (n : ℕ) × Spends l.fn.budget n l.budget;
}
