use Rattle.std.proofs.Common.{map, sym, append-nil}
use Rattle.ortho_search.specs.ItemView.{item_view}
use Rattle.ortho_search.proofs.Listing.{growth_added, all_growths}
use Rattle.ortho_search.proofs.items.add_growths.Goals as goal

pub growths-init : goal.growths-init
growths-init c = sym (append-nil (map item_view c.args.items.now.items))

pub growths-preserved : goal.growths-preserved
growths-preserved c =
    growth_added (map item_view c.args.items.now.items) c.growths.items.items c.growths.before c.push.new.self.items c.growths.invariant c.in_ok-push.ensures.items

pub returns : goal.returns
returns c =
    all_growths (map item_view c.args.items.now.items) c.growths.items.items c.growths.before c.args.count c.growths.invariant c.growths-test.false c.growths.auto.before-end
