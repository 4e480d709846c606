use Rattle.std.proofs.Common.{◌∙◌, refl, sym}
use Rattle.std.proofs.lemmas.Bool.{false≢true}
use Rattle.automaton_grow.proofs.Rules.{first_wide, narrow_next}
use Rattle.automaton_grow.proofs.limits.check_widths.Goals as goal

pub returns-then-branch : goal.returns-then-branch
returns-then-branch c =
    first_wide c.args.states c.args.rules.now c.loop-i.i _ c.index-rules-i.result c.loop-i-test.true c.index-rules-i.is refl c.loop-i.invariant (c.in_ok-is_wide.ensures.0 c.if-branch.true)

pub loop-i-preserved : goal.loop-i-preserved
loop-i-preserved c =
    narrow_next c.args.states c.args.rules.now c.loop-i.i c.index-rules-i.result c.loop-i-test.true c.index-rules-i.is c.loop-i.invariant
    (λ wide. false≢true (sym c.if-branch.false ∙ c.in_ok-is_wide.ensures.1 wide))
