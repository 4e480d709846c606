use Rattle.std.proofs.Common.{arith}
use Rattle.flatterm.proofs.Seen.{next_of_not_last, last_is_final}
use Rattle.flatterm.proofs.free.Goals as goal

pub pop-requires : goal.pop-requires
pop-requires c = let d = c.cells.chain in omega (arith, next_of_not_last d.before d.items d.after d.place c.read.result c.read.ensures c.if-read.false, c.cells.invariant)

pub into_lone-requires : goal.into_lone-requires
into_lone-requires c = let d = c.cells.chain in omega (arith, last_is_final d.before d.items d.after d.place c.read.result c.read.ensures c.if-read.true, c.cells.invariant)
