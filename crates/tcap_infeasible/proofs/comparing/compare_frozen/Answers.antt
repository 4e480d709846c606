use Rattle.std.proofs.Common.{◌∙◌, sym, subst, arith, Ok}
use Rattle.unifier_run.specs.Run.{clash, unifier}
use Rattle.term_core.specs.View.{view}
use Rattle.tcap_infeasible.specs.Frozen.{FrozenAnswers}
use Rattle.tcap_infeasible.proofs.Sizes.{cap_small}
use Rattle.tcap_infeasible.proofs.Linear.{clash_outcome, unifier_outcome}
use Rattle.tcap_infeasible.proofs.Filled.{views_apart, frozen_outcome}
use Rattle.tcap_infeasible.proofs.comparing.compare_frozen.Goals as goal

pub frozen_cap-requires-2-clause-room : goal.frozen_cap-requires-2-clause-room
frozen_cap-requires-2-clause-room c =
    let a = subst (λ z. FrozenAnswers c.args.sys.now c.args.leaf (view c.args.u.now) 2147483648 c.frozen_cap.new.next (Ok z)) c.in-Capped.is c.in_ok-first.ensures in
    let few = (cap_small c.args.sys.now c.args.leaf (view c.args.u.now) a.0 0 a.1).few in
    let count = a.3 in
    let first = c.requires.first.nodes in
    let second = c.requires.second.nodes in
    omega (arith, few, count, first, second)

pub returns-then-clashes : goal.returns-then-clashes
returns-then-clashes c =
    let a = subst (λ z. FrozenAnswers c.args.sys.now c.args.leaf (view c.args.u.now) 2147483648 c.frozen_cap.new.next (Ok z)) c.in-Capped.is c.in_ok-first.ensures in
    let b = subst (λ z. FrozenAnswers c.args.sys.now c.args.leaf (view c.args.v.now) c.frozen_cap.new.next c.frozen_cap-2.new.next (Ok z)) c.in-Capped-2.is c.in_ok-second.ensures in
    frozen_outcome c.args.sys.now c.args.leaf (view c.args.u.now) (view c.args.v.now) c.in-Capped.first c.in-Capped-2.second c.frozen_cap.new.next c.frozen_cap-2.new.next a b clash
    (clash_outcome _ _ (views_apart c.args.sys.now c.args.leaf (view c.args.u.now) (view c.args.v.now) c.in-Capped.first c.in-Capped-2.second c.frozen_cap.new.next
    c.frozen_cap-2.new.next a b c.requires.first c.requires.second) (sym c.clashes.ensures ∙ c.if-clashes.true))

pub returns : goal.returns
returns c =
    let a = subst (λ z. FrozenAnswers c.args.sys.now c.args.leaf (view c.args.u.now) 2147483648 c.frozen_cap.new.next (Ok z)) c.in-Capped.is c.in_ok-first.ensures in
    let b = subst (λ z. FrozenAnswers c.args.sys.now c.args.leaf (view c.args.v.now) c.frozen_cap.new.next c.frozen_cap-2.new.next (Ok z)) c.in-Capped-2.is c.in_ok-second.ensures in
    let run = unifier_outcome _ _ (views_apart c.args.sys.now c.args.leaf (view c.args.u.now) (view c.args.v.now) c.in-Capped.first c.in-Capped-2.second c.frozen_cap.new.next
    c.frozen_cap-2.new.next a b c.requires.first c.requires.second) (sym c.clashes.ensures ∙ c.if-clashes.false) in (
      run.0,
      frozen_outcome c.args.sys.now c.args.leaf (view c.args.u.now) (view c.args.v.now) c.in-Capped.first c.in-Capped-2.second c.frozen_cap.new.next
          c.frozen_cap-2.new.next a b (unifier run.0) run.1,
    )
