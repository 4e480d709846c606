use Rattle.std.proofs.Common.{◌+◌, drop, length}
use Rattle.rewriting.specs.Prelude.{size, size_all, apply, apply_all}
use Rattle.unifier_run.specs.Run.{value}
use Rattle.term_core.specs.View.{view, views}
use Rattle.unification.specs.Solving.{bindings, AreInTurn}
use Rattle.unification.proofs.Measure.{weight}
use Rattle.unification.proofs.Solve.{Remain}
use Rattle.unification.proofs.solving.+solve.Given as goal

abbrev pub decreases-meet : goal.decreases-meet
decreases-meet l = weight (length (bindings l.found.now.items)) (size (apply (value (bindings l.found.now.items)) (view l.a.now)) + size (apply (value (bindings l.found.now.items)) (view l.b.now))) 1

abbrev pub decreases-solve : goal.decreases-solve
decreases-solve l = weight (length (bindings l.found.now.items)) (size (apply (value (bindings l.found.now.items)) (view l.a.now)) + size (apply (value (bindings l.found.now.items)) (view l.b.now))) 2

abbrev pub decreases-solve_all : goal.decreases-solve_all
decreases-solve_all l = weight (length (bindings l.found.now.items)) (size_all (apply_all (value (bindings l.found.now.items)) (views l.xs.now)) + size_all
    (apply_all (value (bindings l.found.now.items)) (views l.ys.now))) 3

abbrev pub invariant-solve_all-loop-i : goal.invariant-solve_all-loop-i
invariant-solve_all-loop-i l = record {
  turns : AreInTurn l.found.items;
  remain : Remain (bindings l.fn.found.items) (bindings l.found.items) (views l.xs) (views l.ys) (views (drop l.i l.xs)) (views (drop l.i l.ys));
}
