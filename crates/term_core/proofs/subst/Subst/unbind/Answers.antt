use Rattle.std.proofs.Common.{ap, ◌∙◌}
use Rattle.std.specs.FinMap as map
use Rattle.term_core.proofs.Maps.{unbound}
use Rattle.term_core.proofs.subst.Subst.unbind.Goals as goal

pub returns : goal.returns
returns c =
    unbound c.self.inside.bound c.remove-value.new.self c.args.x c.remove-value.ensures.updates.0
    ∙ ap (λ m. map.remove m c.args.x) c.self.view_is
