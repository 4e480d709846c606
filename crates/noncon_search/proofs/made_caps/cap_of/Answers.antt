use Rattle.std.proofs.Common.{◌^◌, inl, inr, Ok, refl, subst, arith}
use Rattle.rewriting.specs.Terms.{var}
use Rattle.caps.specs.Caps.{kept}
use Rattle.term_core.specs.View.{view}
use Rattle.term_core.proofs.Views.{view-Var}
use Rattle.tcap_infeasible.specs.Answers.{CapAnswers}
use Rattle.noncon_search.proofs.made_caps.cap_of.Goals as goal

pub rigid_cap_in-requires : goal.rigid_cap_in-requires
rigid_cap_in-requires c = record { fit = c.requires; room = let few = c.requires.nodes in omega (arith, few); below = c.if-not-has_variables_below.ensures.yes refl }

pub returns-in-Capped : goal.returns-in-Capped
returns-in-Capped c =
    let w = subst (λ z. CapAnswers c.args.sys.now kept var (view c.args.t.now) (2 ^ 31) (Ok z)) c.in-Capped.is c.in_ok-cap.ensures.answer in
    inl (record { fits = c.requires; below = c.if-not-has_variables_below.ensures.yes refl; cap = w.0; is_cap = w.1; shown = w.2 })

pub returns-in-TooLarge : goal.returns-in-TooLarge
returns-in-TooLarge c =
    inr (subst (λ z. CapAnswers c.args.sys.now kept var (view c.args.t.now) (2 ^ 31) (Ok z)) c.in-TooLarge.is c.in_ok-cap.ensures.answer, view-Var (2 ^ 31))
