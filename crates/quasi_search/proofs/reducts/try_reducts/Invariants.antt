use Rattle.std.proofs.Common.{ℕ, ◌+◌, drop, map}
use Rattle.term_core.specs.RuleView.{condition_view}
use Rattle.critical_pairs.specs.View.{overlap_view}
use Rattle.cc_count.specs.Counts.{Spends}
use Rattle.search_answers.proofs.Walking.{Walking}
use Rattle.quasi_space.specs.QuasiItems.{reduct_items, quasi_item_cost, GivesQuasi}
use Rattle.quasi_search.proofs.reducts.try_reducts.Given as goal

abbrev pub invariant-conds : goal.invariant-conds
invariant-conds l = record {
  walking : Walking quasi_item_cost (GivesQuasi l.sys (overlap_view l.overlap))
      (reduct_items l.sys (map condition_view l.overlap.conds.items) 1 (map condition_view l.overlap.conds.items)) l.fn.budget l.budget
      (reduct_items l.sys (map condition_view l.overlap.conds.items) (l.i + 1) (map condition_view (drop l.i l.overlap.conds.items)));
  kept : (n : ℕ) × Spends l.fn.budget n l.budget;
}
