use Rattle.std.proofs.Common.{◌≡◌, ◌+◌, drop, [], arith}
use Rattle.std.proofs.Math.ListN.{drop_of_length-le}
use Rattle.rewriting.specs.Terms as math
use Rattle.rewriting.specs.Substitutions.{apply, apply_all, values_of}
use Rattle.term_core.specs.View.{view, views}
use Rattle.term_core.proofs.Views.{views-drop}
use Rattle.term_core.proofs.Instances.{size_apply-Fun, depth_apply-Fun, no_room, no_room_within}
use Rattle.term_core.proofs.Numbers.{none_holds}
use Rattle.term_core.proofs.subst.Subst.+room_after.Goals as goal

pub returns-then-room-eq0-clause-none : goal.returns-then-room-eq0-clause-none
returns-then-room-eq0-clause-none t c = no_room (apply (values_of c.args.self.now) (view c.args.t.now)) c.args.room c.args.levels c.then-room-eq0.either

pub returns-in_err-left-in-Fun-clause-none : goal.returns-in_err-left-in-Fun-clause-none
returns-in_err-left-in-Fun-clause-none t c =
    let s = values_of c.args.self.now in
    let items = c.deref-arg-items.result.now in
    let i = c.loop-arg.arg-index in
    let here = views-drop items i c.arg-item.result c.loop-arg-test.true c.arg-item.is in
    let nodes = rw here at c.loop-arg.invariant.nodes in
    let unseen = rw here at c.loop-arg.invariant.unseen in
    let size_is = size_apply-Fun s c.args.t.now c.in-Fun.field-0 c.in-Fun.args c.in-Fun.is in
    let size = rw (← c.deref-arg-items.ensures.value) at size_is in
    let depth_is = depth_apply-Fun s c.args.t.now c.in-Fun.field-0 c.in-Fun.args c.in-Fun.is in
    let depth = rw (← c.deref-arg-items.ensures.value) at depth_is in
    let stuck =
    no_room_within c.args.room c.loop-arg.left c.args.levels (math.size_all (apply_all s (views items))) (math.depth_all (apply_all s (views items)))
    (math.size (apply s (view c.arg-item.result))) (math.size_all (apply_all s (views (drop (i + 1) items)))) (math.depth (apply s (view c.arg-item.result)))
    (math.depth_all (apply_all s (views (drop (i + 1) items)))) nodes unseen c.in_err-left-in-Fun.ensures.none in
    none_holds c.from_residual.result (rw (size, depth) stuck)

pub returns-after-loop-arg-clause-nodes : goal.returns-after-loop-arg-clause-nodes
returns-after-loop-arg-clause-nodes t c =
    let s = values_of c.args.self.now in
    let items = c.deref-arg-items.result.now in
    let past : drop c.loop-arg.arg-index items ≡ [] = drop_of_length-le items c.loop-arg-test.false in
    let nodes = rw past at c.loop-arg.invariant.nodes in
    let size_is = size_apply-Fun s c.args.t.now c.in-Fun.field-0 c.in-Fun.args c.in-Fun.is in
    let size = rw (← c.deref-arg-items.ensures.value) at size_is in
    omega (arith, nodes, size)

pub returns-after-loop-arg-clause-levels : goal.returns-after-loop-arg-clause-levels
returns-after-loop-arg-clause-levels t c =
    let s = values_of c.args.self.now in
    let items = c.deref-arg-items.result.now in
    let past : drop c.loop-arg.arg-index items ≡ [] = drop_of_length-le items c.loop-arg-test.false in
    let seen = rw past at c.loop-arg.invariant.seen in
    let depth_is = depth_apply-Fun s c.args.t.now c.in-Fun.field-0 c.in-Fun.args c.in-Fun.is in
    let depth = rw (← c.deref-arg-items.ensures.value) at depth_is in
    omega (arith, seen, depth, c.if-levels-eq0.false)
