use Rattle.std.proofs.Common.{map, sym, append-nil}
use Rattle.ortho_search.specs.ItemView.{item_view}
use Rattle.ortho_search.proofs.Listing.{conflict_added, all_conflicts_with}
use Rattle.ortho_search.proofs.items.add_conflicts_with.Goals as goal

pub outer-init : goal.outer-init
outer-init c = sym (append-nil (map item_view c.args.items.now.items))

pub outer-preserved : goal.outer-preserved
outer-preserved c = conflict_added (map item_view c.args.items.now.items) c.args.inner c.outer.items.items c.outer.before c.push.new.self.items c.outer.invariant c.in_ok-push.ensures.items

pub returns : goal.returns
returns c = all_conflicts_with (map item_view c.args.items.now.items) c.args.inner c.outer.items.items c.outer.before c.args.count c.outer.invariant c.outer-test.false c.outer.auto.before-end
