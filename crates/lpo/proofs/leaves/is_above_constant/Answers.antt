use Rattle.term_core.specs.View.{views}
use Rattle.lpo.proofs.Constants.{above_covered}
use Rattle.lpo.proofs.leaves.is_above_constant.Goals as goal

pub returns-then-is_covered : goal.returns-then-is_covered
returns-then-is_covered c =
    record { above = above_covered c.args.places.now c.args.f (views c.args.args.now) c.args.known.now c.args.g c.if-is_covered.ensures c.requires; known = c.requires }
