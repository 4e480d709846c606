use Rattle.std.proofs.Common.{take}
use Rattle.term_core.specs.HeadView.{head_view}
use Rattle.measure_grid.specs.Grid.{ranges}
use Rattle.measure_grid.proofs.Choices.{AreFirsts}
use Rattle.grid_search.proofs.entries.first_entry.Given as goal

abbrev pub invariant-places : goal.invariant-places
invariant-places l = AreFirsts l.coeffs.items (take l.place (ranges (head_view l.head) l.arity))
