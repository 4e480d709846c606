use Rattle.std.proofs.Common.{◌≡◌, ◌++◌}
use Rattle.reach.specs.ReachedView.{list_view}
use Rattle.reach.specs.EntryView.{table_view}
use Rattle.reach.proofs.listed.derived.Given as goal

abbrev pub invariant-table : goal.invariant-table
invariant-table l = list_view l.list.items ++ table_view l.entry-iterator.rest.items ≡ table_view l.fn.table.items
