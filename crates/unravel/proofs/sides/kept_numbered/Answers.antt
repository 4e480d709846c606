use Rattle.std.proofs.Common.{ap, ◌∙◌, ◌∷◌, map}
use Rattle.std.proofs.lemmas.List.{take_all}
use Rattle.rewriting.specs.Substitutions.{apply}
use Rattle.term_core.specs.View.{view}
use Rattle.unravel.specs.SideView.{numbered}
use Rattle.unravel.proofs.Kept.{places_here}
use Rattle.unravel.proofs.sides.kept_numbered.Goals as goal

pub returns : goal.returns
returns c =
    let s = numbered c.args.order.now in
    let t = view c.args.term.now in
    places_here s t (map view c.loop-x.args.items) c.args.known.now (c.loop-x.invariant ∙ ap (λ q. apply s t ∷ map s q) (take_all c.loop-x.x-index c.args.known.now c.loop-x-test.false))
