use Rattle.std.proofs.Common.{◌≡◌, ◌∷◌, take, map}
use Rattle.rewriting.specs.Substitutions.{apply}
use Rattle.term_core.specs.View.{view}
use Rattle.unravel.specs.SideView.{numbered}
use Rattle.unravel.proofs.sides.kept_numbered.Given as goal

abbrev pub invariant-loop-x : goal.invariant-loop-x
invariant-loop-x l = map view l.args.items ≡ apply (numbered l.order) (view l.term) ∷ map (numbered l.order) (take l.x-index l.known)
