use Rattle.std.proofs.Common.{◌<◌, ◌+◌, sym, subst, Ok}
use Rattle.rewriting.specs.Terms.{size}
use Rattle.term_core.specs.View.{view}
use Rattle.term_core.proofs.Sizes.{size_inside}
use Rattle.caps.specs.Caps.{node}
use Rattle.tcap_infeasible.specs.Frozen.{FrozenAnswers}
use Rattle.tcap_infeasible.proofs.Args.{AreCapped, capped_next, start_low, arg_room, arg_fits, arg_constants, arg_large, leaf_constant, args_held, whole_cap}
use Rattle.tcap_infeasible.proofs.capping.+frozen_cap.Goals as goal

pub frozen_leaf-requires-clause-constant : goal.frozen_leaf-requires-clause-constant
frozen_leaf-requires-clause-constant t c = leaf_constant c.args.sys.now c.args.leaf c.args.t.now c.in-Var.x c.in-Var.is c.requires.constants

pub frozen_cap-requires : goal.frozen_cap-requires
frozen_cap-requires t c =
    let is = c.in-Fun.is in
    let same = c.deref-arg-items.ensures.value in
    let h = c.loop-arg-test.true in
    let at = c.arg-item.is in (
      subst (λ z. size (view c.arg-item.result) < z) c.decreases (size_inside c.args.t.now c.in-Fun.f c.in-Fun.args c.deref-arg-items.result.now c.loop-arg.arg-index c.arg-item.result is same h at),
      (
        arg_fits c.args.t.now c.in-Fun.f c.in-Fun.args c.deref-arg-items.result.now c.loop-arg.arg-index c.arg-item.result is same h at c.requires.fit,
        (
          start_low c.args.sys.now c.args.leaf c.deref-arg-items.result.now c.loop-arg.arg-index c.loop-arg.capped.items c.args.next.now c.loop-arg.next c.loop-arg.invariant c.requires.low,
          (
            arg_room c.args.t.now c.in-Fun.f c.in-Fun.args c.deref-arg-items.result.now c.loop-arg.arg-index c.arg-item.result is same h at c.args.sys.now c.args.leaf
                c.loop-arg.capped.items c.args.next.now c.loop-arg.next c.loop-arg.invariant c.requires.room,
            arg_constants c.args.t.now c.in-Fun.f c.in-Fun.args c.deref-arg-items.result.now c.loop-arg.arg-index c.arg-item.result is same h at c.args.sys.now c.args.leaf c.requires.constants,
          ),
        ),
      ),
    )

pub returns-in-TooLarge : goal.returns-in-TooLarge
returns-in-TooLarge t c =
    arg_large c.args.t.now c.in-Fun.f c.in-Fun.args c.deref-arg-items.result.now c.loop-arg.arg-index c.arg-item.result c.in-Fun.is c.deref-arg-items.ensures.value
    c.loop-arg-test.true c.arg-item.is c.args.sys.now c.args.leaf
    (subst (λ z. FrozenAnswers c.args.sys.now c.args.leaf (view c.arg-item.result) c.loop-arg.next c.frozen_cap.new.next (Ok z)) c.in-TooLarge.is c.in_ok-u-in-Fun.ensures)

pub loop-arg-preserved : goal.loop-arg-preserved
loop-arg-preserved t c =
    subst (λ z. AreCapped c.args.sys.now c.args.leaf c.deref-arg-items.result.now (c.loop-arg.arg-index + 1) z c.args.next.now c.frozen_cap.new.next) (sym c.in_ok-push-in-Capped.ensures.items)
    (capped_next c.args.sys.now c.args.leaf c.deref-arg-items.result.now c.loop-arg.arg-index c.loop-arg.capped.items c.args.next.now c.loop-arg.next c.frozen_cap.new.next
    c.arg-item.result c.in-Capped.u c.loop-arg-test.true c.arg-item.is c.loop-arg.invariant
    (subst (λ z. FrozenAnswers c.args.sys.now c.args.leaf (view c.arg-item.result) c.loop-arg.next c.frozen_cap.new.next (Ok z)) c.in-Capped.is c.in_ok-u-in-Fun.ensures))

pub returns-after-loop-arg : goal.returns-after-loop-arg
returns-after-loop-arg t c =
    whole_cap c.args.sys.now c.args.leaf c.args.t.now c.in-Fun.f c.in-Fun.args c.deref-arg-items.result.now c.loop-arg.arg-index c.loop-arg.capped.items c.args.next.now
    c.loop-arg.next c.topped.new.next c.topped.result c.in-Fun.is c.deref-arg-items.ensures.value c.loop-arg-test.false
    c.loop-arg.invariant c.requires.fit c.requires.low c.requires.constants c.topped.ensures

pub topped-requires-clause-held : goal.topped-requires-clause-held
topped-requires-clause-held t c =
    record {
      start = c.args.next.now;
      cap = node c.in-Fun.f c.loop-arg.invariant.shapes;
      held = args_held c.args.sys.now c.args.leaf c.args.t.now c.in-Fun.f c.in-Fun.args c.deref-arg-items.result.now c.loop-arg.arg-index c.loop-arg.capped.items c.args.next.now
          c.loop-arg.next c.in-Fun.is c.deref-arg-items.ensures.value c.loop-arg-test.false
          c.loop-arg.invariant c.requires.fit c.requires.low c.requires.constants;
    }
