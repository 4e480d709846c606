use Rattle.std.proofs.Common.{◌≡◌, ◌++◌, map}
use Rattle.search_spaces.specs.PairItems.{conflicts_with}
use Rattle.ortho_search.specs.ItemView.{item_view}
use Rattle.ortho_search.proofs.items.add_conflicts_with.Given as goal

abbrev pub invariant-outer : goal.invariant-outer
invariant-outer l = map item_view l.items.items ≡ map item_view l.fn.items.items ++ conflicts_with l.before l.inner
