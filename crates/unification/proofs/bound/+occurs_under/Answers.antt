use Rattle.std.proofs.Common.{◌<◌, sym, ap, ◌∙◌, subst}
use Rattle.rewriting.specs.Prelude.{size, apply, apply_all, occurs, occurs_in}
use Rattle.unifier_run.specs.Run.{value}
use Rattle.term_core.specs.View.{view}
use Rattle.unification.specs.Solving.{bindings}
use Rattle.unification.proofs.Terms.{views-drop_all}
use Rattle.unification.proofs.Under.{opened_head, argument_is_smaller, argument_has}
use Rattle.unification.proofs.bound.+occurs_under.Goals as goal

pub occurs_under-requires : goal.occurs_under-requires
occurs_under-requires t c =
    let s = value (bindings c.args.found.now) in (
      subst (λ z. size (apply s (view c.arg-item.result)) < z) c.decreases
          (argument_is_smaller s _ _ _ _ _ c.head.ensures.same c.in-Fun.is c.deref-arg-items.ensures.value c.loop-arg.arg-index _ c.loop-arg-test.true c.arg-item.is),
      c.requires,
    )

pub returns-then-occurs_under : goal.returns-then-occurs_under
returns-then-occurs_under t c =
    let s = value (bindings c.args.found.now) in
    sym (argument_has s _ _ _ _ _ c.head.ensures.same c.in-Fun.is c.deref-arg-items.ensures.value c.args.x c.loop-arg.arg-index _ c.loop-arg-test.true c.arg-item.is
    (sym c.occurs_under.ensures ∙ c.if-occurs_under.true))

pub returns-after-loop-arg : goal.returns-after-loop-arg
returns-after-loop-arg t c =
    let s = value (bindings c.args.found.now) in
    sym (ap (occurs c.args.x) (opened_head s _ _ _ _ _ c.head.ensures.same c.in-Fun.is c.deref-arg-items.ensures.value)
    ∙ (c.loop-arg.invariant ∙ ap (λ z. occurs_in c.args.x (apply_all s z)) (views-drop_all _ c.loop-arg.arg-index c.loop-arg-test.false)))
