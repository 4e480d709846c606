use Rattle.std.proofs.Common.{sym, subst, arith}
use Rattle.renumbering.specs.Rows.{IsRow}
use Rattle.renumbering.proofs.Rows.{row_new, row_length}
use Rattle.renumbering.proofs.number.Goals as goal

pub returns-clause-kept : goal.returns-clause-kept
returns-clause-kept c = subst IsRow (sym c.in_ok-place.ensures.keys) (row_new c.args.row.now.keys c.args.x (omega arith) c.requires)

pub overflow_cast-result : goal.overflow_cast-result
overflow_cast-result c =
    let few = row_length c.insert_full.new.self.keys (subst IsRow (sym c.in_ok-place.ensures.keys) (row_new c.args.row.now.keys c.args.x (omega arith) c.requires)) c.in_ok-place.ensures.unique in
    let within = c.in_ok-place.ensures.within in
    omega (arith, few, within)
