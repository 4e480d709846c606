use Rattle.ortho_check.proofs.Runs.{run_finishes, run_levels, run_confluent}
use Rattle.ortho_check.proofs.run.OrthoRun.finish.Goals as goal

pub returns-in-Ok-clause-judged : goal.returns-in-Ok-clause-judged
returns-in-Ok-clause-judged c =
    run_finishes c.args.self c.self.inside.sys.now c.self.inside.pairs c.self.view_is c.self.invariant.0 c.in-Ok.pairs c.in-Ok.is c.finish.result c.finish.ensures

pub returns-in-Ok-clause-levels : goal.returns-in-Ok-clause-levels
returns-in-Ok-clause-levels c =
    run_levels c.args.self c.self.inside.sys.now c.self.inside.pairs c.self.view_is c.self.invariant.0 c.in-Ok.pairs c.in-Ok.is c.finish.result c.finish.ensures
    c.levels_commute.ensures.commute c.rules_are_sound.ensures

pub returns-in-Ok-clause-confluent : goal.returns-in-Ok-clause-confluent
returns-in-Ok-clause-confluent c =
    run_confluent c.args.self c.self.inside.sys.now c.self.inside.pairs c.self.view_is c.self.invariant.0 c.in-Ok.pairs c.in-Ok.is c.finish.result c.finish.ensures
    c.levels_commute.ensures.confluent c.rules_are_sound.ensures
