use Rattle.std.proofs.Common.{◌+◌, ◌*◌}
use Rattle.rewriting.specs.Terms.{size, size_all}
use Rattle.term_core.specs.View.{view, views}
use Rattle.ctrs_classes.proofs.regions.+first.Given as goal

abbrev pub decreases-first_variable : goal.decreases-first_variable
decreases-first_variable l = 2 * size (view l.t.now)

abbrev pub decreases-first_among : goal.decreases-first_among
decreases-first_among l = 2 * size_all (views l.args.now) + 1
