use Rattle.std.proofs.Common.{◌<◌, ap, ◌∙◌, map, subst}
use Rattle.std.proofs.lemmas.List.{take_all}
use Rattle.rewriting.specs.Prelude.{size, apply}
use Rattle.unifier_run.specs.Run.{value}
use Rattle.term_core.specs.View.{view}
use Rattle.term_core.proofs.Instances.{apply-Fun}
use Rattle.unification.specs.Solving.{bindings}
use Rattle.unification.proofs.Under.{argument_is_smaller}
use Rattle.unification.proofs.bound.+instance.Goals as goal

pub instance-requires : goal.instance-requires
instance-requires t c =
    let s = value (bindings c.args.found.now) in (
      subst (λ z. size (apply s (view c.arg-item.result)) < z) c.decreases
          (argument_is_smaller s _ _ _ _ _ c.head.ensures.same c.in-Fun.is c.deref-arg-items.ensures.value c.loop-arg.arg-index _ c.loop-arg-test.true c.arg-item.is),
      c.requires,
    )

pub returns-after-loop-arg : goal.returns-after-loop-arg
returns-after-loop-arg t c =
    let s = value (bindings c.args.found.now) in
    let items = c.deref-arg-items.result.now in
    apply-Fun s _ _ _ c.loop-arg.out c.in-Fun.is
    (c.loop-arg.invariant ∙ ap (map (λ u. apply s (view u))) (take_all c.loop-arg.arg-index items c.loop-arg-test.false ∙ c.deref-arg-items.ensures.value))
    ∙ c.head.ensures.same
