use Rattle.std.proofs.Common.{Ok, refl}
use Rattle.cert_model.specs.CertificateView.{pair_entry_view}
use Rattle.pair_check.proofs.RunTallies.{on_ok}
use Rattle.ortho_check.proofs.Runs.{run_takes, rejected_takes}
use Rattle.ortho_check.proofs.run.OrthoRun.take.Goals as goal

pub returns-in-Ok-clause-tally : goal.returns-in-Ok-clause-tally
returns-in-Ok-clause-tally c = λ es h.
    let after = c.take.new.self in
    on_ok c.take.result c.take.ensures.taken
    (λ takes. run_takes c.args.self.now c.self.inside.sys.now c.self.inside.pairs c.self.view_is c.self.invariant.0 c.in-Ok.pairs c.in-Ok.is (pair_entry_view c.args.entry.now)
    (Ok after) after refl takes es h)

pub returns-in-Err-clause-tally : goal.returns-in-Err-clause-tally
returns-in-Err-clause-tally c = λ es h.
    rejected_takes c.args.self.now c.self.inside.sys.now c.self.inside.pairs c.self.view_is c.self.invariant.0 (pair_entry_view c.args.entry.now) c.self.inside.pairs
    c.in-Err.field-0 c.in-Err.is refl es
