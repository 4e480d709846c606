use Rattle.std.proofs.Common.{◌+◌, ap, map, arith}
use Rattle.automata.specs.Closed.{state_of}
use Rattle.cert_model.specs.EvidenceView.{transition_view}
use Rattle.automaton_grow.proofs.Walks.{grown_next, room_behind}
use Rattle.automaton_grow.proofs.sides.+push_grown.Goals as goal

pub overflow_add-next-in-loop-arg : goal.overflow_add-next-in-loop-arg
overflow_add-next-in-loop-arg t c =
    omega (arith, room_behind (c.loop-arg.next + 1) c.deref-arg-items.result.now c.loop-arg.arg-index c.arg-item.result c.loop-arg-test.true c.arg-item.is c.loop-arg.invariant.room, c.inner.ensures)

pub loop-arg-preserved : goal.loop-arg-preserved
loop-arg-preserved t c = record {
  put =
      grown_next (state_of c.args.values.leaves.now c.args.values.states.now) c.deref-arg-items.result.now c.loop-arg.arg-index c.arg-item.result (map transition_view c.loop-arg.out.items)
      (map transition_view c.push_grown.new.out.items) _ c.loop-arg.next (c.loop-arg.next + c.inner.result)
      c.loop-arg-test.true c.arg-item.is c.loop-arg.invariant.put c.in_ok-push_grown-in-Fun.ensures (ap (λ z. c.loop-arg.next + z) c.inner.ensures);
  room =
      omega (
        arith,
        room_behind (c.loop-arg.next + 1) c.deref-arg-items.result.now c.loop-arg.arg-index c.arg-item.result c.loop-arg-test.true c.arg-item.is c.loop-arg.invariant.room,
        c.inner.ensures,
      );
}
