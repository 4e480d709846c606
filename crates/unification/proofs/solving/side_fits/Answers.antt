use Rattle.std.proofs.Common.{ap, ◌∙◌, sym, subst, refl}
use Rattle.rewriting.specs.Prelude.{Fits, apply}
use Rattle.unifier_run.specs.Run.{value}
use Rattle.term_core.specs.View.{view}
use Rattle.term_core.proofs.Views.{view-Var}
use Rattle.unification.specs.Solving.{bindings}
use Rattle.unification.proofs.Kept.{value_fits}
use Rattle.unification.proofs.solving.side_fits.Goals as goal

pub returns-in-Var : goal.returns-in-Var
returns-in-Var c =
    let b = bindings c.args.found.now in
    let x = c.in-Var.field-0 in
    (λ _. subst (λ z. Fits (apply (value b) z)) (sym (ap view c.in-Var.is ∙ view-Var x)) (value_fits b x c.requires.fit), λ _. refl)
