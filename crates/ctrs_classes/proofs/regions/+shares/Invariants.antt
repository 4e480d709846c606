use Rattle.std.proofs.Common.{◌+◌, ◌*◌}
use Rattle.rewriting.specs.Terms.{size, size_all}
use Rattle.term_core.specs.View.{view, views}
use Rattle.ctrs_classes.proofs.regions.+shares.Given as goal

abbrev pub decreases-shares_unknown : goal.decreases-shares_unknown
decreases-shares_unknown l = 2 * size (view l.t.now)

abbrev pub decreases-share_unknown : goal.decreases-share_unknown
decreases-share_unknown l = 2 * size_all (views l.args.now) + 1
