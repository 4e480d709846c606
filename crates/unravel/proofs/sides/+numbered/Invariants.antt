use Rattle.std.proofs.Common.{◌≡◌, take, map}
use Rattle.rewriting.specs.Substitutions.{apply}
use Rattle.term_core.specs.View.{view}
use Rattle.unravel.specs.SideView.{numbered}
use Rattle.unravel.proofs.sides.+numbered.Given as goal

abbrev pub invariant-loop-arg : goal.invariant-loop-arg
invariant-loop-arg l = map view l.out.items ≡ map (λ t. apply (numbered l.order) (view t)) (take l.arg-index l.arg-items)
