use Rattle.std.proofs.Common.{drop}
use Rattle.reach.specs.Parts.{DoAllFit}
use Rattle.reach.specs.EntryView.{table_view}
use Rattle.quasi_search.proofs.Index.{Indexing}
use Rattle.quasi_search.proofs.joins.index_of.Given as goal

abbrev pub invariant-list : goal.invariant-list
invariant-list l = record {
  indexing : Indexing (table_view l.list) l.index.entries (table_view (drop l.listed-index l.list));
  fit : DoAllFit (table_view (drop l.listed-index l.list));
}
