use Rattle.std.proofs.Common.{◌^◌}
use Rattle.tcap_infeasible.specs.declared.capping.Leaf.TheVariants.{Hole}
use Rattle.tcap_infeasible.proofs.Args.{AreCapped}
use Rattle.tcap_infeasible.proofs.Sides.{lefts}
use Rattle.tcap_infeasible.proofs.evidence.left_caps.Given as goal

abbrev pub invariant-loop-cond : goal.invariant-loop-cond
invariant-loop-cond l = AreCapped l.sys Hole (lefts l.conds) l.cond-index l.lefts.items (2 ^ 31) l.next
