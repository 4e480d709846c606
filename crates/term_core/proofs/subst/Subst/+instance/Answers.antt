use Rattle.std.proofs.Common.{ap, ◌∙◌, map}
use Rattle.std.proofs.lemmas.List.{take_all}
use Rattle.rewriting.specs.Substitutions.{values_of, apply}
use Rattle.term_core.specs.View.{view}
use Rattle.term_core.proofs.Instances.{apply-Fun}
use Rattle.term_core.proofs.subst.Subst.+instance.Goals as goal

pub returns-after-loop-arg : goal.returns-after-loop-arg
returns-after-loop-arg t c =
    let s = values_of c.args.self.now in
    let items = c.deref-arg-items.result.now in
    apply-Fun s _ _ _ c.loop-arg.out c.in-Fun.is
    (c.loop-arg.invariant ∙ ap (map (λ u. apply s (view u))) (take_all c.loop-arg.arg-index items c.loop-arg-test.false ∙ c.deref-arg-items.ensures.value))
