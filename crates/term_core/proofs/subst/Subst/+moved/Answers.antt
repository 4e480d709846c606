use Rattle.std.proofs.Common.{◌+◌, ◌∙◌, ap, map, drop}
use Rattle.std.proofs.lemmas.List.{take_all}
use Rattle.rewriting.specs.Substitutions.{values_of, apply}
use Rattle.term_core.specs.View.{view, views}
use Rattle.term_core.proofs.Views.{views-drop}
use Rattle.term_core.proofs.Instances.{apply-Fun}
use Rattle.term_core.proofs.Moving.{part_instance, moved_on, made_on}
use Rattle.term_core.proofs.subst.Subst.+moved.Goals as goal

pub loop-arg-preserved : goal.loop-arg-preserved
loop-arg-preserved t c =
    let items = c.deref-arg-items.result.now in
    let i = c.loop-arg.arg-index in
    let repeated = c.args.repeated.now in
    let whole = view c.args.t.now in
    let part = view c.arg-item.result in
    let rest = views (drop (i + 1) items) in
    let b = c.args.self.now in
    let moving = rw (views-drop items i c.arg-item.result c.loop-arg-test.true c.arg-item.is) at c.loop-arg.invariant.moving in
    let same = part_instance repeated whole part rest b c.loop-arg.self c.requires moving in
    record {
      made = made_on (λ u. apply (values_of b) (view u)) items c.loop-arg.out.items c.push.new.self.items i c.arg-item.result c.in_ok-moved-in-Fun.field-0 c.loop-arg-test.true
          c.arg-item.is c.loop-arg.invariant.made c.in_ok-push-in-Fun.ensures.items (c.in_ok-moved-in-Fun.ensures.instance ∙ same);
      moving = moved_on repeated whole part rest b c.loop-arg.self c.requires moving c.moved.new.self c.in_ok-moved-in-Fun.ensures.kept;
    }

pub returns-after-loop-arg-clause-instance : goal.returns-after-loop-arg-clause-instance
returns-after-loop-arg-clause-instance t c =
    let s = values_of c.args.self.now in
    let items = c.deref-arg-items.result.now in
    apply-Fun s _ _ _ c.loop-arg.out c.in-Fun.is
    (c.loop-arg.invariant.made ∙ ap (map (λ u. apply s (view u))) (take_all c.loop-arg.arg-index items c.loop-arg-test.false ∙ c.deref-arg-items.ensures.value))
