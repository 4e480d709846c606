use Rattle.std.proofs.Common.{sym, map}
use Rattle.term_core.specs.RuleView.{condition_view}
use Rattle.certificates.proofs.Sizes.{hypothesis_fits}
use Rattle.tree_automata.proofs.evidence.judge.Goals as goal

pub judge_condition-requires-clause-left : goal.judge_condition-requires-clause-left
judge_condition-requires-clause-left c = (hypothesis_fits (map condition_view c.args.conds.now) c.args.evidence.now.cond (condition_view c.in-Some.cond.now) (sym c.in-Some.ensures) c.requires.fit).0

pub judge_condition-requires-clause-right : goal.judge_condition-requires-clause-right
judge_condition-requires-clause-right c = (hypothesis_fits (map condition_view c.args.conds.now) c.args.evidence.now.cond (condition_view c.in-Some.cond.now) (sym c.in-Some.ensures) c.requires.fit).1
