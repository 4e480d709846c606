use Rattle.std.proofs.Common.{◌+◌, drop, subst}
use Rattle.reach.specs.Parts.{DoAllFit}
use Rattle.reach.specs.EntryView.{entry_view, table_view}
use Rattle.general_lemmas.proofs.Places.{map-drop_read}
use Rattle.quasi_search.proofs.Index.{indexing_goes_on}
use Rattle.quasi_search.proofs.joins.index_of.Goals as goal

pub list-preserved : goal.list-preserved
list-preserved c =
    let all = c.args.list.now in
    let i = c.list.listed-index in
    let next = map-drop_read entry_view all i c.listed-item.result c.list-test.true c.listed-item.is in
    let fit = subst DoAllFit next c.list.invariant.fit in
    record {
      indexing = indexing_goes_on c.list.index c.in_ok-key.key _ c.in_ok-key.ensures fit.0.nodes (table_view all) (table_view (drop i all)) (table_view (drop (i + 1) all))
          c.requires.once c.list.invariant.indexing next
          c.insert.new.self.entries c.in_ok-insert.ensures.entries;
      fit = fit.1;
    }
