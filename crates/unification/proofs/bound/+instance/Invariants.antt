use Rattle.std.proofs.Common.{◌≡◌, take, map}
use Rattle.rewriting.specs.Prelude.{size, apply}
use Rattle.unifier_run.specs.Run.{value}
use Rattle.term_core.specs.View.{view}
use Rattle.unification.specs.Solving.{bindings}
use Rattle.unification.proofs.bound.+instance.Given as goal

abbrev pub decreases-instance : goal.decreases-instance
decreases-instance l = size (apply (value (bindings l.found.now)) (view l.t.now))

abbrev pub invariant-loop-arg : goal.invariant-loop-arg
invariant-loop-arg l = map view l.out.items ≡ map (λ t. apply (value (bindings l.found)) (view t)) (take l.arg-index l.arg-items)
