use Rattle.std.proofs.Common.{drop, map}
use Rattle.rewriting.specs.Terms.{Fits}
use Rattle.reach_lists.specs.Laws.{EachOf}
use Rattle.search_spaces.specs.PeakItems.{peak_item_cost, peak_items, GivesPeak}
use Rattle.search_answers.proofs.Walking.{Walking}
use Rattle.noncon_search.proofs.starts.try_each.Given as goal

abbrev pub invariant-starts : goal.invariant-starts
invariant-starts g l = record {
  walking : Walking peak_item_cost (GivesPeak l.names l.sys) (peak_items l.sys (map g.T.HasStart.start l.all)) l.fn.budget l.budget
      (peak_items l.sys (map g.T.HasStart.start (drop l.one-index l.all)));
  fit : EachOf (λ x. Fits (g.T.HasStart.start x)) (drop l.one-index l.all);
}
