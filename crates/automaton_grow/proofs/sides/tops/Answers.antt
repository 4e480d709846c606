use Rattle.std.proofs.Common.{◌+◌, ap, arith}
use Rattle.automata.specs.Closed.{state_of}
use Rattle.automaton_grow.proofs.Walks.{tops_next, room_behind}
use Rattle.automaton_grow.proofs.sides.tops.Goals as goal

pub overflow_add-next : goal.overflow_add-next
overflow_add-next c =
    omega (arith, room_behind c.loop-arg.next c.args.args.now c.loop-arg.arg-index c.arg-item.result c.loop-arg-test.true c.arg-item.is c.loop-arg.invariant.room, c.inner-next.ensures)

pub loop-arg-preserved : goal.loop-arg-preserved
loop-arg-preserved c = record {
  put =
      tops_next (state_of c.args.values.leaves.now c.args.values.states.now) c.args.args.now c.loop-arg.arg-index c.arg-item.result c.loop-arg.qs.items c.push.new.self.items _ c.loop-arg.next
      c.top.result (c.loop-arg.next + c.inner-next.result) c.loop-arg-test.true c.arg-item.is
      c.loop-arg.invariant.put c.in_ok-push.ensures.items c.top.ensures (ap (λ z. c.loop-arg.next + z) c.inner-next.ensures);
  room = omega (arith, room_behind c.loop-arg.next c.args.args.now c.loop-arg.arg-index c.arg-item.result c.loop-arg-test.true c.arg-item.is c.loop-arg.invariant.room, c.inner-next.ensures);
}
