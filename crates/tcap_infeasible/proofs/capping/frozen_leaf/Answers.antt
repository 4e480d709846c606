use Rattle.std.proofs.Common.{subst, arith}
use Rattle.tcap_infeasible.specs.Frozen.{HasConstant}
use Rattle.tcap_infeasible.proofs.capping.frozen_leaf.Goals as goal

pub overflow_add-result : goal.overflow_add-result
overflow_add-result c = let room = subst (λ z. HasConstant z c.args.x) c.in-Kept.is c.requires.constant in omega (arith, room)
