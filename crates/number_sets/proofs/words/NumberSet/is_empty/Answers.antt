use Rattle.std.proofs.Common.{refl, arith}
use Rattle.number_sets.proofs.Bits.{empty_by, filled_by}
use Rattle.number_sets.proofs.words.NumberSet.is_empty.Goals as goal

pub returns-then-word-ne0 : goal.returns-then-word-ne0
returns-then-word-ne0 c = (
  λ f. absurd (cc),
  λ none. absurd (filled_by c.args.self.now c.deref-word-items.result.now c.deref-word-items.ensures.value c.loop-word.word-index (omega arith) c.if-word-ne0.true none),
)

pub returns : goal.returns
returns c = (λ t. empty_by c.args.self.now c.deref-word-items.result.now c.deref-word-items.ensures.value c.loop-word.word-index c.loop-word-test.false c.loop-word.invariant, λ e. refl)
