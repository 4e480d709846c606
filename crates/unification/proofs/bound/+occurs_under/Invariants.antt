use Rattle.std.proofs.Common.{◌≡◌, drop}
use Rattle.rewriting.specs.Prelude.{size, apply, apply_all, occurs_in}
use Rattle.unifier_run.specs.Run.{value}
use Rattle.term_core.specs.View.{view, views}
use Rattle.unification.specs.Solving.{bindings}
use Rattle.unification.proofs.bound.+occurs_under.Given as goal

abbrev pub decreases-occurs_under : goal.decreases-occurs_under
decreases-occurs_under l = size (apply (value (bindings l.found.now)) (view l.t.now))

abbrev pub invariant-loop-arg : goal.invariant-loop-arg
invariant-loop-arg l = occurs_in l.x (apply_all (value (bindings l.found)) (views l.arg-items)) ≡ occurs_in l.x (apply_all (value (bindings l.found)) (views (drop l.arg-index l.arg-items)))
