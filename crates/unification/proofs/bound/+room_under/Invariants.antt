use Rattle.std.proofs.Common.{◌≡◌, ◌≤◌, ◌+◌, ◌-◌, max, drop}
use Rattle.rewriting.specs.Prelude.{size_all, depth_all, apply_all}
use Rattle.unifier_run.specs.Run.{value}
use Rattle.term_core.specs.View.{views}
use Rattle.unification.specs.Solving.{bindings}
use Rattle.unification.proofs.bound.+room_under.Given as goal

abbrev pub decreases-room_under : goal.decreases-room_under
decreases-room_under l = l.levels

abbrev pub invariant-loop-arg : goal.invariant-loop-arg
invariant-loop-arg l = record {
  nodes : l.left + 1 + size_all (apply_all (value (bindings l.found)) (views l.arg-items)) ≡ l.fn.room + size_all (apply_all (value (bindings l.found)) (views (drop l.arg-index l.arg-items)));
  seen : depth_all (apply_all (value (bindings l.found)) (views l.arg-items)) ≤ max (l.fn.levels - 1) (depth_all (apply_all (value (bindings l.found)) (views (drop l.arg-index l.arg-items))));
  unseen : depth_all (apply_all (value (bindings l.found)) (views (drop l.arg-index l.arg-items))) ≤ depth_all (apply_all (value (bindings l.found)) (views l.arg-items));
}
