use Rattle.std.proofs.Common.{◌+◌, ◌*◌}
use Rattle.rewriting.specs.Terms.{size, size_all}
use Rattle.term_core.specs.View.{view, views}
use Rattle.term_core.proofs.variables.+occurs.Given as goal

abbrev pub decreases-occurs : goal.decreases-occurs
decreases-occurs l = 2 * size (view l.t.now)

abbrev pub decreases-occurs_any : goal.decreases-occurs_any
decreases-occurs_any l = 2 * size_all (views l.args.now) + 1
