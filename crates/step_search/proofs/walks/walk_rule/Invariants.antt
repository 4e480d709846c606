use Rattle.std.proofs.Common.{take, map}
use Rattle.term_core.specs.RuleView.{condition_view}
use Rattle.simplified_spaces.specs.Tries.{tries_of}
use Rattle.step_search.proofs.Segments.{SoFar}
use Rattle.step_search.proofs.walks.walk_rule.Given as goal

abbrev pub invariant-tries : goal.invariant-tries
invariant-tries l = SoFar l.sys (take l.place (tries_of l.number (map condition_view l.rule.conds.items))) l.fn.budget l.budget
