use Rattle.std.proofs.Common.{arith}
use Rattle.term_core.specs.View.{view}
use Rattle.automaton_grow.proofs.Sizes.{inner_size}
use Rattle.automaton_grow.proofs.Walks.{inner_left}
use Rattle.automaton_grow.proofs.sides.+inner.Goals as goal

pub overflow_add-count : goal.overflow_add-count
overflow_add-count t c =
    omega (
      arith,
      inner_size (view c.args.t.now),
      inner_left c.deref-arg-items.result.now c.loop-arg.arg-index c.arg-item.result c.loop-arg-test.true c.arg-item.is,
      c.inner-count.ensures,
      c.requires,
      c.loop-arg.invariant.counted,
    )
