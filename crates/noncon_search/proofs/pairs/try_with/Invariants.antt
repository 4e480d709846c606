use Rattle.std.proofs.Common.{◌∷◌, drop}
use Rattle.term_core.specs.View.{view}
use Rattle.noncon_search.specs.Ends.{end_view, ends_view, AreEnds}
use Rattle.noncon_search.specs.Answers.{pairs_with}
use Rattle.search_spaces.specs.PeakItems.{peak_item_cost, GivesPeak}
use Rattle.search_answers.proofs.Walking.{Walking}
use Rattle.noncon_search.proofs.pairs.try_with.Given as goal

abbrev pub invariant-later : goal.invariant-later
invariant-later l = record {
  walking : Walking peak_item_cost (GivesPeak l.names l.sys) (pairs_with (view l.first.start.now) (end_view l.first.end.now) (ends_view l.later)) l.fn.budget l.budget
      (pairs_with (view l.first.start.now) (end_view l.first.end.now) (ends_view (drop l.second-index l.later)));
  ends : AreEnds l.sys (view l.first.start.now) (l.first.end.now ∷ drop l.second-index l.later);
}
