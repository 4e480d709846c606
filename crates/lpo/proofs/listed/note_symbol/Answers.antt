use Rattle.std.proofs.Common.{arith}
use Rattle.lpo.proofs.Noting.{noted_last}
use Rattle.lpo.proofs.listed.note_symbol.Goals as goal

pub returns : goal.returns
returns c =
    noted_last c.args.number c.args.lists.now c.args.symbol c.index-lists-place-2.result c.push.new.self (let inside = c.if-place-lists.false in omega (arith, inside)) c.in_ok-push.ensures.items
