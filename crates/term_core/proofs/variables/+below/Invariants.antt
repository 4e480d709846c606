use Rattle.std.proofs.Common.{◌+◌, ◌*◌}
use Rattle.rewriting.specs.Terms.{size, size_all}
use Rattle.term_core.specs.View.{view, views}
use Rattle.term_core.proofs.variables.+below.Given as goal

abbrev pub decreases-has_variables_below : goal.decreases-has_variables_below
decreases-has_variables_below l = 2 * size (view l.t.now)

abbrev pub decreases-have_variables_below : goal.decreases-have_variables_below
decreases-have_variables_below l = 2 * size_all (views l.args.now) + 1
