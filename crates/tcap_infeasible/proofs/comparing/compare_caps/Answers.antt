use Rattle.term_core.specs.View.{view}
use Rattle.tcap_infeasible.proofs.Pairs.{opened_answers, opened_apart}
use Rattle.tcap_infeasible.proofs.comparing.compare_caps.Goals as goal

pub returns-clause-answer : goal.returns-clause-answer
returns-clause-answer c = opened_answers c.args.sys.now (view c.args.u.now) (view c.args.v.now) c.compare_frozen.result c.compare_frozen.ensures

pub returns-clause-apart : goal.returns-clause-apart
returns-clause-apart c = opened_apart c.args.sys.now (view c.args.u.now) (view c.args.v.now) c.compare_frozen.result (returns-clause-answer c)
