use Rattle.rewriting.specs.Terms.{size}
use Rattle.term_core.specs.View.{view}
use Rattle.tcap_infeasible.proofs.Places.{HavePlaces}
use Rattle.tcap_infeasible.proofs.keys.+keyed.Given as goal

abbrev pub decreases-keyed : goal.decreases-keyed
decreases-keyed l = size (view l.t.now)

abbrev pub invariant-loop-arg : goal.invariant-loop-arg
invariant-loop-arg l = HavePlaces l.symbols l.initial.foreign l.foreign l.initial.variables l.variables l.arg-items l.arg-index l.places.items
