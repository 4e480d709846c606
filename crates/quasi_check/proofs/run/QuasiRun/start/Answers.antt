use Rattle.cert_model.specs.ReasonView.{rejected_view}
use Rattle.tallies.specs.Tally.{whatever_they_are}
use Rattle.quasi_check.proofs.Runs.{started_tally}
use Rattle.quasi_check.proofs.run.QuasiRun.start.Goals as goal
use Rattle.quasi_check.proofs.run.QuasiRun.start.Goals.{in-Ok, in-Err-Rejected}

pub returns-clause-tally : goal.returns-clause-tally
returns-clause-tally g c = elim c.match-start_pairs.branch [
  | in-Ok w ↦ rw w.pairs-is (started_tally (g.M.Measure.judged c.args.measure.now c.args.sys.now) c.args.sys.now w.in-Ok.pairs w.in-Ok.ensures)
  | in-Err-Rejected w ↦ rw w.pairs-is (whatever_they_are (rejected_view w.in-Err-Rejected.reason) (rw w.in-Err-Rejected.field-0-is at w.in-Err-Rejected.ensures))
]
