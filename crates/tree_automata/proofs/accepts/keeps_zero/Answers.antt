use Rattle.std.proofs.Common.{◌∙◌, sym, refl}
use Rattle.std.proofs.lemmas.Bool.{false≢true}
use Rattle.tree_automata.proofs.Accepted.{zero_here, zero_more, zero_nowhere}
use Rattle.tree_automata.proofs.accepts.keeps_zero.Goals as goal
use Rattle.tree_automata.proofs.accepts.keeps_zero.Goals.{else-transition-eq0-via-then-transition-eq0+else-are_zeros, else-transition-eq0-via-else-transition-eq0}

pub returns-then-are_zeros : goal.returns-then-are_zeros
returns-then-are_zeros c = (
  λ _.
      zero_here c.args.index.now c.args.f c.args.arity c.with_symbol-transition-items.result.now c.with_symbol-transition-items.ensures c.loop-transition.transition-index
      c.transition-item.result c.loop-transition-test.true
      c.transition-item.is (sym c.deref.ensures.value ∙ c.if-are_zeros.ensures.0 refl) c.if-transition-eq0.true,
  λ _. refl,
)

pub loop-transition-preserved : goal.loop-transition-preserved
loop-transition-preserved c =
    zero_more c.args.index.now c.args.f c.args.arity c.with_symbol-transition-items.result.now c.with_symbol-transition-items.ensures c.loop-transition.transition-index
    c.transition-item.result c.loop-transition-test.true
    c.transition-item.is c.loop-transition.invariant
    (λ zeros target.
    elim c.else-transition-eq0.branch [
      | else-transition-eq0-via-then-transition-eq0+else-are_zeros w ↦ false≢true (w.if-are_zeros.ensures.1 (w.deref.ensures.value ∙ zeros))
      | else-transition-eq0-via-else-transition-eq0 w ↦ w.if-transition-eq0.false target
    ])

pub returns : goal.returns
returns c = (
  λ h. absurd (false≢true h),
  λ h.
      absurd
      (zero_nowhere c.args.index.now c.args.f c.args.arity c.with_symbol-transition-items.result.now c.with_symbol-transition-items.ensures c.loop-transition.transition-index
      c.loop-transition-test.false c.loop-transition.invariant h),
)
