use Rattle.std.proofs.Common.{arith}
use Rattle.number_sets.proofs.Related.{copied_all}
use Rattle.number_sets.proofs.rows.NumberRelation.copy.Goals as goal

pub returns : goal.returns
returns c = copied_all c.args.self.now.rows.items c.loop-row.rows.items c.loop-row.row-index (omega (arith, c.deref-row-items.ensures.len)) c.loop-row.invariant
