use Rattle.std.proofs.Common.{◌+◌, ◌*◌}
use Rattle.rewriting.specs.Terms.{size, size_all}
use Rattle.term_core.specs.View.{view, views}
use Rattle.matching.proofs.instances.+agrees.Given as goal

abbrev pub decreases-agrees : goal.decreases-agrees
decreases-agrees l = 2 * size (view l.pattern.now)

abbrev pub decreases-agree_all : goal.decreases-agree_all
decreases-agree_all l = 2 * size_all (views l.patterns.now) + 1
