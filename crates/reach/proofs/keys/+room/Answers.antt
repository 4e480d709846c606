use Rattle.std.proofs.Common.{◌≡◌, sym, ap, ◌∙◌}
use Rattle.rewriting.specs.Substitutions.{apply, values_of}
use Rattle.term_core.specs.View.{view}
use Rattle.term_core.proofs.Views.{view-Var}
use Rattle.reach.proofs.Instances.{value_is, value_none}
use Rattle.reach.proofs.keys.+room.Goals as goal

pub room_of-returns-in-Some-clause-none : goal.room_of-returns-in-Some-clause-none
room_of-returns-in-Some-clause-none t c =
    let b = c.args.values.now in
    let u = view c.in-Some.value.now in
    let got = rw c.in-Some.is at c.get.ensures in
    let same : u ≡ apply (values_of b) (view c.args.t.now) =
    sym (ap (apply (values_of b)) (ap view c.in-Var.is ∙ view-Var c.in-Var.x) ∙ value_is b c.in-Var.x u (sym got)) in
    value_none u (apply (values_of b) (view c.args.t.now)) c.args.room c.room_after.result same c.room_after.ensures.none
