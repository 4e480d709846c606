use Rattle.std.proofs.Common.{ℕ, ◌≤◌, map}
use Rattle.critical_pairs.specs.View.{overlap_view}
use Rattle.cc_count.specs.Counts.{Spends}
use Rattle.search_spaces.specs.Refuting.{refutings}
use Rattle.search_spaces.proofs.Growths.{growths_behind}
use Rattle.search_answers.proofs.Walking.{Walking}
use Rattle.quasi_space.specs.QuasiItems.{try_refuting, quasi_item_cost, GivesQuasi}
use Rattle.pair_search.specs.Grown.{IsGrown}
use Rattle.quasi_search.proofs.refuting.try_refutings.Given as goal

abbrev pub invariant-growths : goal.invariant-growths
invariant-growths l = record {
  within : l.before ≤ l.count;
  walking : Walking quasi_item_cost (GivesQuasi l.sys (overlap_view l.overlap)) (map try_refuting (refutings l.count)) l.fn.budget l.budget (map try_refuting (growths_behind l.before l.count));
  kept : (n : ℕ) × Spends l.fn.budget n l.budget;
  knows : IsGrown l.grown l.sys;
}
