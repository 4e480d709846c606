use Rattle.std.proofs.Common.{drop, map, ◌↔◌}
use Rattle.term_core.specs.RuleView.{condition_view}
use Rattle.term_core.specs.JoinAnswers.{DoJoinsFit}
use Rattle.term_core.proofs.joins.do_joins_fit.Given as goal

abbrev pub invariant-loop-cond : goal.invariant-loop-cond
invariant-loop-cond l = DoJoinsFit (map condition_view l.conds) ↔ DoJoinsFit (map condition_view (drop l.cond-index l.conds))
