use Rattle.std.proofs.Common.{refl, arith}
use Rattle.std.proofs.lemmas.Bool.{false≢true}
use Rattle.cert_model.specs.EvidenceView.{automaton_view}
use Rattle.tree_automata.proofs.Accepted.{accepting_here, none_more, none_at_all}
use Rattle.tree_automata.proofs.accepts.is_one_accepting.Goals as goal
use Rattle.tree_automata.proofs.accepts.is_one_accepting.Goals.{else-q-a-via-then-q-a+else-has_left, else-q-a-via-else-q-a}

pub loop-q-preserved : goal.loop-q-preserved
loop-q-preserved c =
    none_more (automaton_view c.args.a.now) c.args.reached.now c.deref-q-items.result.now c.deref-q-items.ensures.value c.loop-q.q-index c.loop-q-test.true c.loop-q.invariant
    (λ low there.
    elim c.else-q-a.branch [
      | else-q-a-via-then-q-a+else-has_left w ↦ false≢true (w.if-has_left.ensures.1 there)
      | else-q-a-via-else-q-a w ↦ omega (arith, w.if-q-a.false)
    ])

pub returns-then-has_left : goal.returns-then-has_left
returns-then-has_left c = (
  λ _.
      accepting_here (automaton_view c.args.a.now) c.args.reached.now c.deref-q-items.result.now c.deref-q-items.ensures.value c.loop-q.q-index c.loop-q-test.true c.if-q-a.true
      (c.if-has_left.ensures.0 refl),
  λ _. refl,
)

pub returns : goal.returns
returns c = (
  λ h. absurd (false≢true h),
  λ h.
      absurd
      (none_at_all (automaton_view c.args.a.now) c.args.reached.now c.deref-q-items.result.now c.deref-q-items.ensures.value c.loop-q.q-index c.loop-q-test.false c.loop-q.invariant h),
)
