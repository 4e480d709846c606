use Rattle.std.proofs.Common.{◌≡◌, ◌-◌, length, drop}
use Rattle.unifier_run.specs.Laws.{as_map}
use Rattle.unification.specs.Solving.{bindings}
use Rattle.unification.proofs.bound.subst_of.Given as goal

abbrev pub invariant-loop-i : goal.invariant-loop-i
invariant-loop-i l = l.subst ≡ as_map (drop (length l.found - l.i) (bindings l.found))
