use Rattle.term_core.specs.View.{view}
use Rattle.tcap_infeasible.proofs.Tried.{Tried}
use Rattle.tcap_infeasible.proofs.capping.judge_root.Given as goal

abbrev pub invariant-loop-number : goal.invariant-loop-number
invariant-loop-number l = Tried l.sys l.f (view l.part) l.number-items l.number-index
