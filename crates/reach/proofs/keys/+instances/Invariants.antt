use Rattle.std.proofs.Common.{◌+◌, ◌*◌}
use Rattle.rewriting.specs.Terms.{size, size_all}
use Rattle.term_core.specs.View.{view, views}
use Rattle.reach.proofs.keys.+instances.Given as goal

abbrev pub decreases-add_instance : goal.decreases-add_instance
decreases-add_instance l = 2 * size (view l.t.now)

abbrev pub decreases-add_instances : goal.decreases-add_instances
decreases-add_instances l = 2 * size_all (views l.args.now) + 1
