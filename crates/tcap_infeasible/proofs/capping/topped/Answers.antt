use Rattle.std.proofs.Common.{◌∙◌, refl, sym, subst, Ok, inl, inr}
use Rattle.caps.specs.Caps.{hole, frozen}
use Rattle.term_core.proofs.Views.{view-Fun, view-Var}
use Rattle.tcap_infeasible.specs.Frozen.{IsHeld, RootAnswers}
use Rattle.tcap_infeasible.proofs.capping.topped.Goals as goal

pub returns-in-Stays : goal.returns-in-Stays
returns-in-Stays c =
    λ s cap held shown counted.
    let whole = subst (λ z. IsHeld c.args.sys.now c.args.f z c.args.first cap) (sym (view-Fun c.args.f c.args.args)) held in
    let all = subst (λ z. RootAnswers c.args.sys.now (frozen c.args.sys.now cap) (Ok z)) c.in-Stays.is (c.in_ok-judge_root.ensures c.args.first cap whole) in
    (cap, inl (all, refl), view-Fun c.args.f c.args.args ∙ shown, counted)

pub returns-in-Opens : goal.returns-in-Opens
returns-in-Opens c =
    λ s cap held shown counted.
    let whole = subst (λ z. IsHeld c.args.sys.now c.args.f z c.args.first cap) (sym (view-Fun c.args.f c.args.args)) held in
    let found = subst (λ z. RootAnswers c.args.sys.now (frozen c.args.sys.now cap) (Ok z)) c.in-Opens.is (c.in_ok-judge_root.ensures c.args.first cap whole) in
    (hole, inr (found, refl), view-Var c.args.first, refl)

pub returns-in-Passes : goal.returns-in-Passes
returns-in-Passes c =
    λ s cap held shown counted.
    let whole = subst (λ z. IsHeld c.args.sys.now c.args.f z c.args.first cap) (sym (view-Fun c.args.f c.args.args)) held in
    subst (λ z. RootAnswers c.args.sys.now (frozen c.args.sys.now cap) (Ok z)) c.in-Passes.is (c.in_ok-judge_root.ensures c.args.first cap whole)
