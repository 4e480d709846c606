use Rattle.std.proofs.Common.{Ok, refl}
use Rattle.cert_model.specs.CertificateView.{pair_entry_view}
use Rattle.pair_check.proofs.RunTallies.{on_ok}
use Rattle.quasi_check.proofs.Runs.{run_takes, rejected_takes}
use Rattle.quasi_check.proofs.run.QuasiRun.take.Goals as goal

pub returns-in-Ok-clause-tally : goal.returns-in-Ok-clause-tally
returns-in-Ok-clause-tally g c = λ es h.
    let inside = c.self.inside in
    let after = c.take.new.self in
    on_ok c.take.result c.take.ensures.taken
    (λ takes. run_takes g.M.Measure.judged c.args.self.now inside.sys.now inside.measure.now inside.pairs c.self.view_is c.self.invariant.0 c.in-Ok.pairs c.in-Ok.is
    (pair_entry_view c.args.entry.now) (Ok after) after refl takes es h)

pub returns-in-Err-clause-tally : goal.returns-in-Err-clause-tally
returns-in-Err-clause-tally g c = λ es h.
    let inside = c.self.inside in
    rejected_takes g.M.Measure.judged c.args.self.now inside.sys.now inside.measure.now inside.pairs c.self.view_is c.self.invariant.0 (pair_entry_view c.args.entry.now)
    inside.pairs c.in-Err.field-0 c.in-Err.is refl es
