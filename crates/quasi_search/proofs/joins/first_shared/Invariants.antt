use Rattle.std.proofs.Common.{drop}
use Rattle.reach.specs.Parts.{DoAllFit}
use Rattle.reach.specs.EntryView.{table_view}
use Rattle.quasi_search.proofs.Index.{Unshared}
use Rattle.quasi_search.proofs.joins.first_shared.Given as goal

abbrev pub invariant-left : goal.invariant-left
invariant-left l = record {
  unshared : Unshared (table_view l.left) (table_view l.fn.right) (table_view (drop l.first-index l.left));
  fit : DoAllFit (table_view (drop l.first-index l.left));
}
