use Rattle.std.proofs.Common.{◌≡◌, ◌++◌, drop}
use Rattle.reach_lists.specs.Laws.{EachOf}
use Rattle.reach.specs.Parts.{DoAllFit}
use Rattle.reach.specs.EntryView.{table_view}
use Rattle.noncon_search.specs.Ends.{ends_view, IsEnd, AreMet}
use Rattle.noncon_search.specs.Laying.{IsUnder}
use Rattle.noncon_search.proofs.ends.ends_of.Given as goal

abbrev pub invariant-list : goal.invariant-list
invariant-list l = record {
  listed : ends_view l.ends.items ++ table_view (drop l.listed-index l.list) ≡ table_view l.list;
  ends : EachOf (IsEnd l.sys) l.ends.items;
  fit : DoAllFit (table_view (drop l.listed-index l.list));
  met : AreMet l.sys l.ends.items;
  under : EachOf (λ e. IsUnder l.overlay e.cap) l.ends.items;
}
