use Rattle.std.proofs.Common.{Ok, subst}
use Rattle.caps.specs.Caps.{kept}
use Rattle.term_core.specs.View.{view}
use Rattle.tcap_infeasible.specs.Compared.{PairAnswers}
use Rattle.noncon_search.proofs.Clashing.{unify_none, large_none}
use Rattle.noncon_search.proofs.candidates.whole_caps_clash.Goals as goal

pub returns-in-Unify : goal.returns-in-Unify
returns-in-Unify c =
    let w = subst (λ z. PairAnswers c.args.sys.now kept (view c.args.u.now) (view c.args.v.now) (Ok z)) c.in-Unify.is c.in_ok-compare_rigid_caps.ensures.answer in
    unify_none c.args.sys.now (view c.args.u.now) (view c.args.v.now) w.0 w.1

pub returns-in-TooLarge : goal.returns-in-TooLarge
returns-in-TooLarge c =
    large_none c.args.sys.now (view c.args.u.now) (view c.args.v.now)
    (subst (λ z. PairAnswers c.args.sys.now kept (view c.args.u.now) (view c.args.v.now) (Ok z)) c.in-TooLarge.is c.in_ok-compare_rigid_caps.ensures.answer)
