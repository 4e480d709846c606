use Rattle.std.proofs.Common.{map, length}
use Rattle.critical_pairs.specs.Cursors.{rest_of}
use Rattle.critical_pairs.specs.View.{overlap_view}
use Rattle.critical_pairs.proofs.Walk.{Walks}
use Rattle.critical_pairs.proofs.overlaps_with.Given as goal

abbrev pub decreases-triples : goal.decreases-triples
decreases-triples l = length (rest_of l.sys l.cursor)

abbrev pub invariant-triples : goal.invariant-triples
invariant-triples l = Walks l.sys l.cursor l.kept (map overlap_view l.all.items)
