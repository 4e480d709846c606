use Rattle.std.proofs.Common.{◌≡◌, ◌++◌, drop}
use Rattle.reach_lists.specs.Laws.{EachOf}
use Rattle.reach.specs.EntryView.{table_view}
use Rattle.quasi_search.specs.Reducts.{reducts_view, IsJudged}
use Rattle.quasi_search.proofs.reducts.reducts_of.Given as goal

abbrev pub invariant-list : goal.invariant-list
invariant-list l = record {
  listed : reducts_view l.reducts.items ++ table_view (drop l.listed-index l.list) ≡ table_view l.list;
  judged : EachOf (IsJudged l.sys) l.reducts.items;
}
