use Rattle.std.proofs.Common.{map}
use Rattle.rewriting.specs.Infeasibility.{IsInfeasible}
use Rattle.rewriting.proofs.Laws.{well_formed}
use Rattle.term_core.specs.RuleView.{condition_view}
use Rattle.infeasible.proofs.Accepted.{accepted}
use Rattle.infeasible.proofs.refuted.Goals as goal

pub returns-clause-sound : goal.returns-clause-sound
returns-clause-sound g c =
    let sys = c.args.sys.now in
    let conds = map condition_view c.args.conds.now in
    accepted (g.R.Refuter.judged c.args.refuter.now sys conds) (IsInfeasible sys conds)
    (g.met.R.Refuter.law c.args.refuter.now sys conds (well_formed sys c.rules_are_sound.ensures)) c.refutes_in.result c.refutes_in.ensures
