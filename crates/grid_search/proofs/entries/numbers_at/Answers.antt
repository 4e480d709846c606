use Rattle.std.proofs.Common.{arith}
use Rattle.grid_search.proofs.Tried.{active_tried}
use Rattle.grid_search.proofs.entries.numbers_at.Goals as goal

pub returns-in_default-2-2-clause-tried : goal.returns-in_default-2-2-clause-tried
returns-in_default-2-2-clause-tried c arity e =
    let within = c.requires in
    let others = c.if-count-eq1.false in
    rw c.in_default-2.is (active_tried c.in_default-2.field-0 arity c.args.place (omega (arith, others, e)) (omega (arith, within, e)))
