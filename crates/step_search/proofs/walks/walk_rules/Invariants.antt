use Rattle.std.proofs.Common.{take, map}
use Rattle.term_core.specs.RuleView.{rule_view}
use Rattle.simplified_spaces.specs.Tries.{tries_from}
use Rattle.step_search.proofs.Segments.{SoFar}
use Rattle.step_search.proofs.walks.walk_rules.Given as goal

abbrev pub invariant-rules : goal.invariant-rules
invariant-rules l = SoFar l.sys (tries_from 1 (take l.i (map rule_view l.rules))) l.fn.budget l.budget
