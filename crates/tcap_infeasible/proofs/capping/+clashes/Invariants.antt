use Rattle.std.proofs.Common.{◌≡◌, drop}
use Rattle.rewriting.specs.Terms.{size}
use Rattle.term_core.specs.View.{view, views}
use Rattle.tcap_infeasible.specs.Clashes.{do_any_clash}
use Rattle.tcap_infeasible.proofs.capping.+clashes.Given as goal

abbrev pub decreases-clashes : goal.decreases-clashes
decreases-clashes l = size (view l.first.now)

abbrev pub invariant-loop-i : goal.invariant-loop-i
invariant-loop-i l = do_any_clash l.constants (views l.xs.items) (views l.ys.items) ≡ do_any_clash l.constants (views (drop l.i l.xs.items)) (views (drop l.i l.ys.items))
