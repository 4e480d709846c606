use Rattle.cert_writing.proofs.Prelude.{refl, view-Var, lead_in, next_left, none_left, arguments_shown}
use Rattle.cert_writing.proofs.written_terms.+term.Goals as goal

pub TermPart::put-returns-in-Var : goal.TermPart::put-returns-in-Var
TermPart::put-returns-in-Var g t c = rw (c.in-Var.is, view-Var) c.put.ensures

pub put_arguments-further-init : goal.put_arguments-further-init
put_arguments-further-init g t c = lead_in g.met.O.Output.parts c.put.ensures (arguments_shown _ _ _ c.in-len1-up.len_at_least c.first-item.is)

pub put_arguments-further-preserved : goal.put_arguments-further-preserved
put_arguments-further-preserved g t c =
    let p = g.met.O.Output.parts in
    next_left p c.further-test.true c.arg-item.is c.further.invariant (p _ _ _ _ _ c.put-in-further.ensures c.put-in-further-2.ensures) refl

pub put_arguments-returns-after-further : goal.put_arguments-returns-after-further
put_arguments-returns-after-further g t c = none_left c.further-test.false c.further.invariant c.put-in-len1-up.ensures
