use Rattle.std.proofs.Common.{◌≡◌, ◌++◌, take, map}
use Rattle.term_core.specs.View.{view}
use Rattle.term_core.proofs.positions.copy_onto.Given as goal

abbrev pub invariant-loop-term : goal.invariant-loop-term
invariant-loop-term l = map view l.out.items ≡ map view l.fn.out.items ++ map view (take l.term-index l.terms)
