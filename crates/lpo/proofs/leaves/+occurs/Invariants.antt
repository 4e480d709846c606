use Rattle.std.proofs.Common.{◌+◌, ◌*◌}
use Rattle.rewriting.specs.Terms.{size, size_all}
use Rattle.term_core.specs.View.{view, views}
use Rattle.lpo.proofs.leaves.+occurs.Given as goal

abbrev pub decreases-is_in : goal.decreases-is_in
decreases-is_in l = 2 * size (view l.s.now)

abbrev pub decreases-is_in_any : goal.decreases-is_in_any
decreases-is_in_any l = 2 * size_all (views l.ss.now) + 1
