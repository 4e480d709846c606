use Rattle.std.proofs.Common.{◌+◌, ◌*◌}
use Rattle.rewriting.specs.Terms.{size, size_all}
use Rattle.term_core.specs.View.{view, views}
use Rattle.ctrs_classes.proofs.regions.+repeated.Given as goal

abbrev pub decreases-first_repeated : goal.decreases-first_repeated
decreases-first_repeated l = 2 * size (view l.t.now)

abbrev pub decreases-first_repeated_among : goal.decreases-first_repeated_among
decreases-first_repeated_among l = 2 * size_all (views l.args.now) + 1
