use Rattle.std.proofs.Common.{◌^◌, refl, subst, arith, Ok}
use Rattle.term_core.specs.View.{view}
use Rattle.tcap_infeasible.specs.declared.capping.Leaf.TheVariants.{Kept}
use Rattle.tcap_infeasible.specs.Frozen.{FrozenAnswers}
use Rattle.tcap_infeasible.proofs.Keyed.{keyed_fits}
use Rattle.tcap_infeasible.proofs.Pairs.{places_base}
use Rattle.tcap_infeasible.proofs.Thawed.{rigid_thaws, rigid_answers, rigid_large}
use Rattle.tcap_infeasible.proofs.thawing.thawed_rigid.Goals as goal

pub frozen_cap-requires-clause-fit : goal.frozen_cap-requires-clause-fit
frozen_cap-requires-clause-fit c = keyed_fits _ c.requires.places.foreign c.requires.places.row (view c.args.t.now) (view c.args.places.now) c.requires.places.keyed c.requires.fit

pub frozen_cap-requires-clause-room : goal.frozen_cap-requires-clause-room
frozen_cap-requires-clause-room c = let few = (frozen_cap-requires-clause-fit c).nodes in omega (arith, few)

pub frozen_cap-requires-clause-constants : goal.frozen_cap-requires-clause-constants
frozen_cap-requires-clause-constants c =
    let places = c.requires.places in
    places_base c.args.sys.now _ c.args.base places.foreign places.foreign places.row (view c.args.t.now) (view c.args.places.now) refl places.base_is c.requires.sound
    (omega arith) places.few_foreign places.few places.keyed

pub thawed-requires : goal.thawed-requires
thawed-requires c =
    let a = subst (λ z. FrozenAnswers c.args.sys.now (Kept c.args.base) (view c.args.places.now) (2 ^ 31) c.frozen_cap.new.next (Ok z)) c.in-Capped.is c.in_ok-u.ensures in
    rigid_thaws c.args.sys.now c.args.base c.args.fresh (view c.args.t.now) (view c.args.places.now) c.requires.sound c.requires.places c.requires.room
    (2 ^ 31) c.frozen_cap.new.next (view c.in-Capped.u) c.in-Capped.u refl a refl

pub returns-in_ok-thawed-in-Capped : goal.returns-in_ok-thawed-in-Capped
returns-in_ok-thawed-in-Capped c =
    let a = subst (λ z. FrozenAnswers c.args.sys.now (Kept c.args.base) (view c.args.places.now) (2 ^ 31) c.frozen_cap.new.next (Ok z)) c.in-Capped.is c.in_ok-u.ensures in
    rigid_answers c.args.sys.now c.args.base c.args.fresh (view c.args.t.now) (view c.args.places.now) c.requires.sound c.requires.places c.requires.room
    (2 ^ 31) c.frozen_cap.new.next c.in-Capped.u c.in_ok-thawed-in-Capped.field-0 refl a c.in_ok-thawed-in-Capped.ensures

pub returns-in-TooLarge : goal.returns-in-TooLarge
returns-in-TooLarge c =
    rigid_large c.args.sys.now c.args.base c.args.fresh (view c.args.t.now) (view c.args.places.now) c.requires.sound c.requires.places c.requires.room
    (subst (λ z. FrozenAnswers c.args.sys.now (Kept c.args.base) (view c.args.places.now) (2 ^ 31) c.frozen_cap.new.next (Ok z)) c.in-TooLarge.is c.in_ok-u.ensures)
