use Rattle.std.proofs.Common.{◌≡◌, take}
use Rattle.rewriting.specs.Terms as math
use Rattle.rewriting.specs.Substitutions.{apply}
use Rattle.unifier_run.specs.Run.{value}
use Rattle.term_core.specs.View.{view}
use Rattle.unification.specs.Solving.{bindings, IsHead}
use Rattle.unification.proofs.bound.followed.Given as goal

abbrev pub invariant-loop-bound : goal.invariant-loop-bound
invariant-loop-bound l = record {
  variable : view l.head ≡ math.var l.variable;
  head : IsHead (bindings (take l.bound-index l.found)) (view l.head);
  same : apply (value (bindings l.found)) (view l.head) ≡ apply (value (bindings l.found)) (view l.fn.t);
}
