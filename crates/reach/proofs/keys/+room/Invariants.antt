use Rattle.std.proofs.Common.{◌+◌, ◌*◌}
use Rattle.rewriting.specs.Terms.{size, size_all}
use Rattle.term_core.specs.View.{view, views}
use Rattle.reach.proofs.keys.+room.Given as goal

abbrev pub decreases-room_of : goal.decreases-room_of
decreases-room_of l = 2 * size (view l.t.now)

abbrev pub decreases-room_of_all : goal.decreases-room_of_all
decreases-room_of_all l = 2 * size_all (views l.args.now) + 1
