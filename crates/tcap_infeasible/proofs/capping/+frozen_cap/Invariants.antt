use Rattle.rewriting.specs.Terms.{size}
use Rattle.term_core.specs.View.{view}
use Rattle.tcap_infeasible.proofs.Args.{AreCapped}
use Rattle.tcap_infeasible.proofs.capping.+frozen_cap.Given as goal

abbrev pub decreases-frozen_cap : goal.decreases-frozen_cap
decreases-frozen_cap l = size (view l.t.now)

abbrev pub invariant-loop-arg : goal.invariant-loop-arg
invariant-loop-arg l = AreCapped l.sys l.leaf l.arg-items l.arg-index l.capped.items l.first l.next
