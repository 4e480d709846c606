use Rattle.redex_conditions.proofs.Completing.{completed_more}
use Rattle.redex_conditions.proofs.conditions.complete.Goals as goal

pub loop-k-preserved : goal.loop-k-preserved
loop-k-preserved c = completed_more _ _ _ _ c.loop-k.invariant _ c.in_ok-complete_one.ensures.here c.in_ok-complete_one.ensures.others
