use Rattle.lpo.specs.Places.{before_by}
use Rattle.lpo.proofs.Constants.{met_below}
use Rattle.lpo.proofs.leaves.+met.Goals as goal

pub is_met-returns-else-is_constant : goal.is_met-returns-else-is_constant
is_met-returns-else-is_constant t c =
    met_below (before_by c.args.places.now) c.args.g c.args.s.now c.in-Fun.h c.in-Fun.args c.deref.result.now c.deref-else-is_constant.result.now c.is_met_in.result c.in-Fun.is
    c.deref.ensures.value c.deref-else-is_constant.ensures.value c.if-is_before.ensures c.if-is_constant.ensures c.is_met_in.ensures
