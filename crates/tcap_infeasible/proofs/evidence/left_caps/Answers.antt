use Rattle.std.proofs.Common.{◌+◌, ◌^◌, sym, subst, Ok}
use Rattle.term_core.specs.View.{view}
use Rattle.tcap_infeasible.specs.declared.capping.Leaf.TheVariants.{Hole}
use Rattle.tcap_infeasible.specs.Frozen.{FrozenAnswers}
use Rattle.tcap_infeasible.proofs.Args.{AreCapped, capped_next}
use Rattle.tcap_infeasible.proofs.Sides.{lefts, place, left_at, left_fits, left_room, left_large, lefts_are}
use Rattle.tcap_infeasible.proofs.evidence.left_caps.Goals as goal

pub frozen_cap-requires-clause-fit : goal.frozen_cap-requires-clause-fit
frozen_cap-requires-clause-fit c = left_fits c.args.conds.now c.loop-cond.cond-index c.cond-item.result c.loop-cond-test.true c.cond-item.is c.requires.fit

pub frozen_cap-requires-clause-room : goal.frozen_cap-requires-clause-room
frozen_cap-requires-clause-room c =
    left_room c.args.sys.now c.args.conds.now c.loop-cond.cond-index c.cond-item.result c.loop-cond.lefts.items c.loop-cond.next c.requires.few c.loop-cond-test.true c.cond-item.is
    c.requires.fit c.loop-cond.invariant

pub returns-in-TooLarge : goal.returns-in-TooLarge
returns-in-TooLarge c =
    left_large c.args.sys.now c.args.conds.now c.loop-cond.cond-index c.cond-item.result c.loop-cond-test.true c.cond-item.is
    (subst (λ z. FrozenAnswers c.args.sys.now Hole (view c.cond-item.result.left) c.loop-cond.next c.frozen_cap.new.next (Ok z)) c.in-TooLarge.is c.in_ok-u.ensures)

pub loop-cond-preserved : goal.loop-cond-preserved
loop-cond-preserved c =
    subst (λ z. AreCapped c.args.sys.now Hole (lefts c.args.conds.now) (c.loop-cond.cond-index + 1) z (2 ^ 31) c.frozen_cap.new.next) (sym c.in_ok-push-in-Capped.ensures.items)
    (capped_next c.args.sys.now Hole (lefts c.args.conds.now) c.loop-cond.cond-index c.loop-cond.lefts.items (2 ^ 31) c.loop-cond.next c.frozen_cap.new.next c.cond-item.result.left
    c.in-Capped.u (place c.args.conds.now c.loop-cond.cond-index c.loop-cond-test.true)
    (left_at c.args.conds.now c.loop-cond.cond-index c.cond-item.result c.loop-cond-test.true c.cond-item.is) c.loop-cond.invariant
    (subst (λ z. FrozenAnswers c.args.sys.now Hole (view c.cond-item.result.left) c.loop-cond.next c.frozen_cap.new.next (Ok z)) c.in-Capped.is c.in_ok-u.ensures))

pub returns : goal.returns
returns c = (
  c.loop-cond.invariant.shapes,
  lefts_are c.args.sys.now c.args.conds.now c.loop-cond.cond-index c.loop-cond.lefts.items c.loop-cond.next c.loop-cond-test.false
      c.loop-cond.invariant,
  c.loop-cond.invariant.shown,
)
