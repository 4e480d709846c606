use Rattle.rewriting.specs.Terms.{size}
use Rattle.term_core.specs.View.{view}
use Rattle.tcap_infeasible.proofs.Thawed.{AreThawed}
use Rattle.tcap_infeasible.proofs.thawing.+thawed.Given as goal

abbrev pub decreases-thawed : goal.decreases-thawed
decreases-thawed l = size (view l.t.now)

abbrev pub invariant-loop-i : goal.invariant-loop-i
invariant-loop-i l = AreThawed l.fresh l.args.items l.caps.items l.i l.out.items
