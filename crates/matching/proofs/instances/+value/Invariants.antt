use Rattle.std.proofs.Common.{◌+◌, ◌*◌}
use Rattle.rewriting.specs.Terms.{size, size_all}
use Rattle.term_core.specs.View.{view, views}
use Rattle.matching.proofs.instances.+value.Given as goal

abbrev pub decreases-value_of : goal.decreases-value_of
decreases-value_of l = 2 * size (view l.pattern.now)

abbrev pub decreases-value_in : goal.decreases-value_in
decreases-value_in l = 2 * size_all (views l.patterns.now) + 1
