use Rattle.pair_check.proofs.Running.{are_all}
use Rattle.pair_check.proofs.Stands.{refused_at_start}
use Rattle.pair_check.proofs.run.PairRun.start.Goals as goal

pub returns-in_ok-begin-in-Ok : goal.returns-in_ok-begin-in-Ok
returns-in_ok-begin-in-Ok c = (c.in_ok-begin-in-Ok.ensures, (c.in-Ok.ensures.0, are_all c.args.sys.now c.in-Ok.ensures.0 c.in-Ok.ensures.1))

pub returns-in-Err : goal.returns-in-Err
returns-in-Err c = refused_at_start _ c.args.sys.now c.in-Err.e c.refused.result c.in-Err.ensures c.refused.ensures
