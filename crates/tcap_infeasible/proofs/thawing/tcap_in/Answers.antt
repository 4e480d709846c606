use Rattle.std.proofs.Common.{◌^◌, refl, subst, Ok}
use Rattle.tcap_infeasible.specs.declared.capping.Leaf.TheVariants.{Hole}
use Rattle.term_core.specs.View.{view}
use Rattle.tcap_infeasible.specs.declared.Cap.TheVariants.{Capped}
use Rattle.tcap_infeasible.specs.Frozen.{FrozenAnswers}
use Rattle.tcap_infeasible.proofs.Thawed.{cap_thaws, cap_answers, keeps_reducts}
use Rattle.tcap_infeasible.proofs.thawing.tcap_in.Goals as goal

pub thawed-requires : goal.thawed-requires
thawed-requires c =
    let a = subst (λ z. FrozenAnswers c.args.sys.now Hole (view c.args.t.now) (2 ^ 31) c.frozen_cap.new.next (Ok z)) c.in-Capped.is c.in_ok-u.ensures in
    cap_thaws c.args.sys.now c.args.fresh (view c.args.t.now) (view c.in-Capped.u) (2 ^ 31) c.frozen_cap.new.next c.in-Capped.u refl c.requires.room a refl

pub returns-in_ok-thawed-in-Capped-clause-answer : goal.returns-in_ok-thawed-in-Capped-clause-answer
returns-in_ok-thawed-in-Capped-clause-answer c =
    let a = subst (λ z. FrozenAnswers c.args.sys.now Hole (view c.args.t.now) (2 ^ 31) c.frozen_cap.new.next (Ok z)) c.in-Capped.is c.in_ok-u.ensures in
    cap_answers c.args.sys.now c.args.fresh (view c.args.t.now) (2 ^ 31) c.frozen_cap.new.next c.in-Capped.u c.in_ok-thawed-in-Capped.field-0 refl c.requires.room a c.in_ok-thawed-in-Capped.ensures

pub returns-in_ok-thawed-in-Capped-clause-reducts : goal.returns-in_ok-thawed-in-Capped-clause-reducts
returns-in_ok-thawed-in-Capped-clause-reducts c = keeps_reducts c.args.sys.now (view c.args.t.now) c.args.fresh (Ok (Capped c.in_ok-thawed-in-Capped.field-0))
    (returns-in_ok-thawed-in-Capped-clause-answer c)
