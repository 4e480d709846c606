use Rattle.std.proofs.Common.{◌≡◌, ◌++◌, map}
use Rattle.search_spaces.specs.Refuting.{growths}
use Rattle.search_spaces.specs.PairItems.{try_refuting}
use Rattle.ortho_search.specs.ItemView.{item_view}
use Rattle.ortho_search.proofs.items.add_growths.Given as goal

abbrev pub invariant-growths : goal.invariant-growths
invariant-growths l = map item_view l.items.items ≡ map item_view l.fn.items.items ++ map try_refuting (growths l.before)
