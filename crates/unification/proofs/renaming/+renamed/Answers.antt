use Rattle.std.proofs.Common.{ap, ◌∙◌, map, subst, ◌<◌}
use Rattle.std.proofs.lemmas.List.{take_all}
use Rattle.rewriting.specs.Prelude.{size, apply}
use Rattle.term_core.specs.View.{view}
use Rattle.term_core.proofs.Instances.{apply-Fun}
use Rattle.unification.specs.Answers.{renaming}
use Rattle.term_core.proofs.Sizes.{size_inside}
use Rattle.unification.proofs.Terms.{occurs_inside}
use Rattle.unification.proofs.renaming.+renamed.Goals as goal

pub renamed-requires : goal.renamed-requires
renamed-requires t c = (
  subst (λ z. size (view c.arg-item.result) < z) c.decreases
      (size_inside _ c.in-Fun.f c.in-Fun.args _ c.loop-arg.arg-index _ c.in-Fun.is c.deref-arg-items.ensures.value c.loop-arg-test.true c.arg-item.is),
  λ k o. c.requires.below k
      (occurs_inside k _ c.in-Fun.f c.in-Fun.args _ c.loop-arg.arg-index _ c.in-Fun.is c.deref-arg-items.ensures.value c.loop-arg-test.true c.arg-item.is o),
)

pub returns-after-loop-arg : goal.returns-after-loop-arg
returns-after-loop-arg t c =
    let s = renaming c.args.mul c.args.add in
    let items = c.deref-arg-items.result.now in
    apply-Fun s _ _ _ c.loop-arg.out c.in-Fun.is
    (c.loop-arg.invariant ∙ ap (map (λ u. apply s (view u))) (take_all c.loop-arg.arg-index items c.loop-arg-test.false ∙ c.deref-arg-items.ensures.value))
