use Rattle.std.proofs.Common.{sym, ap}
use Rattle.cert_model.specs.ReasonView.{bad_step_view}
use Rattle.noncon_check.specs.Ends.{bad_of}
use Rattle.noncon_check.proofs.peaks.end_of.Goals as goal

pub returns-in-Err-Bad : goal.returns-in-Err-Bad
returns-in-Err-Bad c =
    let bad = bad_step_view c.in-Err-Bad.bad in
    (bad, ap (λ z. bad_of z bad) (sym c.if-second.true), rw c.in-Err-Bad.field-0-is at c.in-Err-Bad.ensures.judged)

pub returns-in-Err-Bad-2 : goal.returns-in-Err-Bad-2
returns-in-Err-Bad-2 c =
    let bad = bad_step_view c.in-Err-Bad.bad in
    (bad, ap (λ z. bad_of z bad) (sym c.if-second.false), rw c.in-Err-Bad.field-0-is at c.in-Err-Bad.ensures.judged)
