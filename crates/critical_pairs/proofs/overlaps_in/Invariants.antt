use Rattle.std.proofs.Common.{map, length}
use Rattle.critical_pairs.specs.View.{overlap_view}
use Rattle.critical_pairs.proofs.Whole.{Gathered}
use Rattle.critical_pairs.proofs.overlaps_in.Given as goal

abbrev pub decreases-loop-found : goal.decreases-loop-found
decreases-loop-found l = length l.search.rest

abbrev pub invariant-loop-found : goal.invariant-loop-found
invariant-loop-found l = Gathered l.fn.sys l.search (map overlap_view l.found.items)
