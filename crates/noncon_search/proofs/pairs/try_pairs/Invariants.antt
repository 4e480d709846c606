use Rattle.std.proofs.Common.{drop}
use Rattle.term_core.specs.View.{view}
use Rattle.noncon_search.specs.Ends.{ends_view, AreEnds}
use Rattle.noncon_search.specs.Answers.{pair_items}
use Rattle.search_spaces.specs.PeakItems.{peak_item_cost, GivesPeak}
use Rattle.search_answers.proofs.Walking.{Walking}
use Rattle.noncon_search.proofs.pairs.try_pairs.Given as goal

abbrev pub invariant-firsts : goal.invariant-firsts
invariant-firsts l = record {
  walking : Walking peak_item_cost (GivesPeak l.names l.sys) (pair_items (view l.start) (ends_view l.fn.ends)) l.fn.budget l.budget (pair_items (view l.start) (ends_view (drop l.i l.fn.ends)));
  ends : AreEnds l.sys (view l.start) (drop l.i l.fn.ends);
}
