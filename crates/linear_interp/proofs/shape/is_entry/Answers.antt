use Rattle.linear_interp.proofs.EntryChecks.{present_read, shaped_read}
use Rattle.linear_interp.proofs.shape.is_entry.Goals as goal

pub returns : goal.returns
returns c = (
  λ y. present_read c.args.heads.now c.args.arities.now c.args.entries.now c.args.k c.index-entries-k.result _ c.if-k-heads.false c.if-k-arities.false c.if-k-entries.false
      c.index-entries-k.is (c.is_shaped.ensures.0 y),
  λ h. c.is_shaped.ensures.1 (shaped_read c.args.heads.now c.args.arities.now c.args.entries.now c.args.k c.index-entries-k.result _ c.if-k-heads.false c.if-k-arities.false
      c.if-k-entries.false c.index-entries-k.is h),
)
