use Rattle.std.proofs.Common.{sym, ap, ◌∙◌, option_map}
use Rattle.std.specs.FinMap as map
use Rattle.term_core.specs.View.{view}
use Rattle.term_core.proofs.Maps.{get-bindings_of, is_elsewhere}
use Rattle.term_core.proofs.subst.Subst.take.Goals as goal

pub returns-clause-value : goal.returns-clause-value
returns-clause-value c = ap (option_map view) c.remove.ensures.value ∙ get-bindings_of c.self.inside.bound.entries c.args.x ∙ ap (λ m. map.get m c.args.x) c.self.view_is

pub returns-clause-others : goal.returns-clause-others
returns-clause-others c = λ y apart.
    sym (get-bindings_of c.remove.new.self.entries y) ∙ ap (option_map view) (c.remove.ensures.updates.2 y (is_elsewhere c.args.x y apart))
    ∙ get-bindings_of c.self.inside.bound.entries y ∙ ap (λ m. map.get m y) c.self.view_is
