use Rattle.std.proofs.Common.{List, length}
use Rattle.unifier_run.specs.Overlaps.{Overlap}
use Rattle.critical_pairs.proofs.Whole.{Gathered}
use Rattle.pair_check.proofs.run.walk.Given as goal

abbrev pub decreases-overlaps : goal.decreases-overlaps
decreases-overlaps l = length l.search.rest

abbrev pub invariant-overlaps : goal.invariant-overlaps
invariant-overlaps l = (os : List Overlap) × Gathered l.fn.sys l.search os
