use Rattle.std.proofs.Common.{◌+◌, ◌*◌}
use Rattle.rewriting.specs.Terms.{size, size_all}
use Rattle.term_core.specs.View.{view, views}
use Rattle.ctrs_classes.proofs.regions.+has_variable.Given as goal

abbrev pub decreases-has_variable : goal.decreases-has_variable
decreases-has_variable l = 2 * size (view l.t.now)

abbrev pub decreases-have_variable : goal.decreases-have_variable
decreases-have_variable l = 2 * size_all (views l.args.now) + 1
