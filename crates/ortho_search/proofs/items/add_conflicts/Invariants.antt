use Rattle.std.proofs.Common.{◌≡◌, ◌++◌, map}
use Rattle.search_spaces.specs.PairItems.{conflicts}
use Rattle.ortho_search.specs.ItemView.{item_view}
use Rattle.ortho_search.proofs.items.add_conflicts.Given as goal

abbrev pub invariant-inner : goal.invariant-inner
invariant-inner l = map item_view l.items.items ≡ map item_view l.fn.items.items ++ conflicts l.before l.outer_count
