use Rattle.std.proofs.Common.{take}
use Rattle.unifier_run.specs.Run.{DoAllFit}
use Rattle.unification.specs.Solving.{bindings}
use Rattle.unification.proofs.bound.do_fit_under.Given as goal

abbrev pub invariant-loop-i : goal.invariant-loop-i
invariant-loop-i l = DoAllFit (take l.i (bindings l.found))
