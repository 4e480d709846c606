use Rattle.std.proofs.Common.{refl}
use Rattle.number_sets.proofs.Related.{row_here, row_none, rows_none}
use Rattle.number_sets.proofs.rows.NumberRelation.is_empty.Goals as goal

pub loop-row-preserved : goal.loop-row-preserved
loop-row-preserved c = row_none c.deref-row-items.result.now c.loop-row.row-index c.row-item.result c.loop-row-test.true c.row-item.is
    (c.is_empty.ensures.0 c.if-not-is_empty.false) c.loop-row.invariant

pub returns-then-not-is_empty : goal.returns-then-not-is_empty
returns-then-not-is_empty c = (
  λ f. absurd (cc),
  λ none.
      absurd
      (row_here c.args.self.now c.deref-row-items.result.now c.deref-row-items.ensures.value c.loop-row.row-index c.row-item.result c.loop-row-test.true c.row-item.is
      c.is_empty.result c.is_empty.ensures c.if-not-is_empty.true none),
)

pub returns : goal.returns
returns c = (λ t. rows_none c.args.self.now c.deref-row-items.result.now c.deref-row-items.ensures.value c.loop-row.row-index c.loop-row-test.false c.loop-row.invariant, λ e. refl)
