use Rattle.rewriting.proofs.Lists.{front_trans}
use Rattle.renumbering.proofs.Numbered.{numbered_more, row_more, numbered_variable, numbered_symbol, row_symbol}
use Rattle.renumbering.proofs.+numbered_by.Goals as goal

pub arguments-preserved : goal.arguments-preserved
arguments-preserved t c =
    let here = c.in_ok-numbered_by-in-Fun.ensures in
    let args = c.deref-arg-items.result.now in
    let more = numbered_more c.arguments.row.keys c.numbered_by.new.row.keys args c.arguments.numbered.items c.push.new.self.items c.arguments.arg-index c.arg-item.result
    c.in_ok-numbered_by-in-Fun.field-0
    c.arguments-test.true c.arg-item.is here.front c.arguments.invariant.numbered here.numbered c.in_ok-push-in-Fun.ensures.items in
    record {
      row = row_more c.arguments.row.keys c.numbered_by.new.row.keys _ args c.arguments.arg-index c.arg-item.result c.arguments-test.true c.arg-item.is here.row c.arguments.invariant.row;
      front = front_trans c.args.row.now.keys c.arguments.row.keys c.numbered_by.new.row.keys c.arguments.invariant.front here.front;
      kept = here.kept;
      numbered = more;
    }

pub returns-in_ok-number-in-Var-clause-numbered : goal.returns-in_ok-number-in-Var-clause-numbered
returns-in_ok-number-in-Var-clause-numbered t c = numbered_variable c.number.new.row.keys c.args.t.now c.in-Var.x c.in_ok-number-in-Var.field-0 c.in-Var.is c.in_ok-number-in-Var.ensures.place

pub returns-after-arguments-clause-row : goal.returns-after-arguments-clause-row
returns-after-arguments-clause-row t c =
    row_symbol c.args.t.now c.in-Fun.f c.arguments.arg-index c.in-Fun.args c.deref-arg-items.result.now c.in-Fun.is c.deref-arg-items.ensures.value c.arguments-test.false
    c.args.row.now.keys c.arguments.row.keys c.arguments.invariant.row

pub returns-after-arguments-clause-numbered : goal.returns-after-arguments-clause-numbered
returns-after-arguments-clause-numbered t c =
    numbered_symbol c.args.t.now c.in-Fun.f c.arguments.arg-index c.in-Fun.args c.deref-arg-items.result.now c.in-Fun.is c.deref-arg-items.ensures.value c.arguments-test.false
    c.arguments.row.keys c.arguments.numbered
    c.arguments.invariant.numbered
