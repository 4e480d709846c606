use Rattle.std.proofs.Common.{sym, subst, refl, List, ℕ}
use Rattle.std.proofs.lemmas.Bool.{false≢true}
use Rattle.automaton_runs.specs.Counted.{Finds}
use Rattle.tree_automata.proofs.Listed.{twin_missing, twins_more, twins_all}
use Rattle.tree_automata.proofs.sides.includes.Goals as goal

pub returns-then-not-has : goal.returns-then-not-has
returns-then-not-has c =
    let a = c.args.index.now in (
      λ h. absurd (false≢true h),
      λ twins.
          absurd
          (twin_missing a c.args.q c.args.p c.with_target-transition-items.result.now c.with_target-transition-items.ensures c.loop-transition.transition-index
          c.transition-item.result c.loop-transition-test.true
          c.transition-item.is (λ h. false≢true (c.if-not-has.ensures.1 (subst (λ (l : List ℕ). Finds a c.transition-item.result.now.symbol l c.args.q) (sym c.deref.ensures.value) h))) twins),
    )

pub loop-transition-preserved : goal.loop-transition-preserved
loop-transition-preserved c =
    let a = c.args.index.now in
    twins_more a c.args.q c.args.p c.with_target-transition-items.result.now c.with_target-transition-items.ensures c.loop-transition.transition-index
    c.transition-item.result c.loop-transition-test.true
    c.transition-item.is c.loop-transition.invariant
    (subst (λ (l : List ℕ). Finds a c.transition-item.result.now.symbol l c.args.q) c.deref.ensures.value (c.if-not-has.ensures.0 refl))

pub returns : goal.returns
returns c = (
  λ _.
      twins_all c.args.index.now c.args.q c.args.p c.with_target-transition-items.result.now c.with_target-transition-items.ensures c.loop-transition.transition-index
      c.loop-transition-test.false c.loop-transition.invariant,
  λ _. refl,
)
