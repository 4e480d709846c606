use Rattle.term_core.specs.View.{view}
use Rattle.tcap_infeasible.proofs.Made.{made_answers}
use Rattle.tcap_infeasible.proofs.comparing.made_caps_clash.Goals as goal

pub returns-clause-answer : goal.returns-clause-answer
returns-clause-answer c sys u v first second = made_answers sys c.args.fresh u v (view c.args.first.now) (view c.args.second.now) first second c.clashes.result c.clashes.ensures
