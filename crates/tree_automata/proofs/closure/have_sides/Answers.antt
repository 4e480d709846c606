use Rattle.std.proofs.Common.{refl}
use Rattle.std.proofs.lemmas.Bool.{false≢true}
use Rattle.rewriting.proofs.Lists.{among_at, among_map}
use Rattle.term_core.specs.RuleView.{rule_view}
use Rattle.tree_automata.proofs.Open.{other_sides}
use Rattle.tree_automata.proofs.closure.have_sides.Goals as goal
use Rattle.tree_automata.proofs.closure.have_sides.Goals.{else-equal-via-then-equal+else-equal-2, else-equal-via-else-equal}

pub returns-then-equal-2 : goal.returns-then-equal-2
returns-then-equal-2 c =
    let other = c.other-item.result in (
      λ _. (
        rule_view other,
        among_map rule_view other c.args.rules.now (among_at c.args.rules.now c.loop-other.other-index other other c.loop-other-test.true c.other-item.is),
        c.equal.ensures.0 c.if-equal.true,
        c.equal-then-equal.ensures.0 c.if-equal-2.true,
      ),
      λ _. refl,
    )

pub loop-other-preserved : goal.loop-other-preserved
loop-other-preserved c =
    other_sides c.args.rules.now c.loop-other.other-index c.other-item.result (rule_view c.args.rule.now) c.loop-other-test.true c.other-item.is c.loop-other.invariant
    (λ left right.
    elim c.else-equal.branch [
      | else-equal-via-then-equal+else-equal-2 w ↦ false≢true (w.if-equal-2.ensures.1 right)
      | else-equal-via-else-equal w ↦ false≢true (w.if-equal.ensures.1 left)
    ])
