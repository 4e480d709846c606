use Rattle.std.proofs.Common.{map, take}
use Rattle.term_core.specs.RuleView.{rule_view}
use Rattle.term_core.specs.JoinAnswers.{DoAllJoinsFit}
use Rattle.term_core.proofs.joins.first_large.Given as goal

abbrev pub invariant-loop-i : goal.invariant-loop-i
invariant-loop-i l = DoAllJoinsFit (map rule_view (take l.i l.rules))
