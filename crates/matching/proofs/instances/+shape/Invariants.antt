use Rattle.std.proofs.Common.{◌+◌, ◌*◌}
use Rattle.rewriting.specs.Terms.{size, size_all}
use Rattle.term_core.specs.View.{view, views}
use Rattle.matching.proofs.instances.+shape.Given as goal

abbrev pub decreases-has_shape : goal.decreases-has_shape
decreases-has_shape l = 2 * size (view l.pattern.now)

abbrev pub decreases-have_shape : goal.decreases-have_shape
decreases-have_shape l = 2 * size_all (views l.patterns.now) + 1
