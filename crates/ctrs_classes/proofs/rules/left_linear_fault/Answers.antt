use Rattle.std.proofs.Common.{refl}
use Rattle.ctrs_classes.proofs.Linear.{linear, repeated}
use Rattle.ctrs_classes.proofs.rules.left_linear_fault.Goals as goal

pub returns-in-Ok : goal.returns-in-Ok
returns-in-Ok c = linear _ _ c.requires c.in-Ok.ensures.found.0

pub returns-in-Err : goal.returns-in-Err
returns-in-Err c = (refl, repeated _ _ c.requires _ c.in-Err.ensures.found)
