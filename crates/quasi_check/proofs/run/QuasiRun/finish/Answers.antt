use Rattle.rewriting.proofs.Laws.{well_formed}
use Rattle.quasi_check.proofs.Runs.{run_finishes, run_confluent}
use Rattle.quasi_check.proofs.run.QuasiRun.finish.Goals as goal

pub returns-in-Ok-clause-judged : goal.returns-in-Ok-clause-judged
returns-in-Ok-clause-judged g c =
    run_finishes g.M.Measure.judged c.args.self c.self.inside.sys.now c.self.inside.measure.now c.self.inside.pairs c.self.view_is c.self.invariant.0 c.in-Ok.pairs c.in-Ok.is
    c.finish.result c.finish.ensures

pub returns-in-Ok-clause-confluent : goal.returns-in-Ok-clause-confluent
returns-in-Ok-clause-confluent g c =
    let sys = c.self.inside.sys.now in
    run_confluent g.M.Measure.judged c.args.self sys c.self.inside.measure.now c.self.inside.pairs c.self.view_is c.self.invariant.0 c.in-Ok.pairs c.in-Ok.is c.finish.result c.finish.ensures
    c.bounded_descents_are_confluent.ensures.confluent (g.met.M.Measure.bounds c.self.inside.measure.now sys (well_formed sys c.rules_are_sound.ensures)) c.rules_are_sound.ensures
