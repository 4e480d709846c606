use Rattle.std.proofs.Common.{sym, ◌∙◌}
use Rattle.unification.proofs.Found.{next_new}
use Rattle.unification.proofs.bound.is_new.Goals as goal

pub loop-bound-preserved : goal.loop-bound-preserved
loop-bound-preserved c = next_new c.args.x c.args.found.now c.loop-bound.bound-index c.bound-item.result c.loop-bound-test.true c.bound-item.is c.loop-bound.invariant
    (sym c.occurs.ensures ∙ c.if-occurs.false)
