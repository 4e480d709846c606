use Rattle.std.proofs.Common.{◌≡◌, ◌≤◌, ◌+◌, ◌-◌, max, drop}
use Rattle.rewriting.specs.Prelude.{size_all, depth_all, apply_all, values_of}
use Rattle.term_core.specs.View.{views}
use Rattle.critical_pairs.proofs.fitting.+room_under.Given as goal

abbrev pub decreases-room_under : goal.decreases-room_under
decreases-room_under l = goal.size-room_under l

abbrev pub invariant-loop-arg : goal.invariant-loop-arg
invariant-loop-arg l = record {
  nodes : l.left + 1 + size_all (apply_all (values_of l.m) (views l.arg-items)) ≡ l.fn.room + size_all (apply_all (values_of l.m) (views (drop l.arg-index l.arg-items)));
  seen : depth_all (apply_all (values_of l.m) (views l.arg-items)) ≤ max (l.fn.levels - 1) (depth_all (apply_all (values_of l.m) (views (drop l.arg-index l.arg-items))));
  unseen : depth_all (apply_all (values_of l.m) (views (drop l.arg-index l.arg-items))) ≤ depth_all (apply_all (values_of l.m) (views l.arg-items));
}
