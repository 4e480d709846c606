use Rattle.std.proofs.Common.{map, sym, append-nil}
use Rattle.ortho_search.specs.ItemView.{item_view}
use Rattle.ortho_search.proofs.Listing.{row_added, all_conflicts}
use Rattle.ortho_search.proofs.items.add_conflicts.Goals as goal

pub inner-init : goal.inner-init
inner-init c = sym (append-nil (map item_view c.args.items.now.items))

pub inner-preserved : goal.inner-preserved
inner-preserved c = row_added (map item_view c.args.items.now.items) c.args.outer_count c.inner.items.items c.inner.before c.add_conflicts_with.new.items.items c.inner.invariant
    c.in_ok-add_conflicts_with.ensures

pub returns : goal.returns
returns c = all_conflicts (map item_view c.args.items.now.items) c.args.outer_count c.inner.items.items c.inner.before c.args.inner_count c.inner.invariant c.inner-test.false c.inner.auto.before-end
