use Rattle.std.proofs.Common.{◌+◌, ◌*◌}
use Rattle.rewriting.specs.Terms.{size, size_all}
use Rattle.term_core.specs.View.{view, views}
use Rattle.lpo.proofs.leaves.+met.Given as goal

abbrev pub decreases-is_met : goal.decreases-is_met
decreases-is_met l = 2 * size (view l.s.now)

abbrev pub decreases-is_met_in : goal.decreases-is_met_in
decreases-is_met_in l = 2 * size_all (views l.ss.now) + 1
