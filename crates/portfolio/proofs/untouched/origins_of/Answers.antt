use Rattle.std.proofs.Common.{◌+◌, map, drop, subst, sym}
use Rattle.cert_model.specs.CertificateView.{simp_view}
use Rattle.portfolio.proofs.StepOrigins.{LeadOn, none_followed, step_there, step_followed, steps_followed}
use Rattle.portfolio.proofs.untouched.origins_of.Goals as goal

pub loop-step-init : goal.loop-step-init
loop-step-init c = λ last all. none_followed c.args.sys.now last c.in_ok-origins.origins.items (map simp_view c.args.steps.now) c.in_ok-origins.ensures all

pub follow-requires-clause-above : goal.follow-requires-clause-above
follow-requires-clause-above c =
    (step_there c.args.sys.now c.requires.0 c.loop-step.origins.items c.args.steps.now c.loop-step.step-index c.step-item.result c.loop-step-test.true c.step-item.is
    (c.loop-step.invariant c.requires.0 c.requires.1)).0

pub follow-requires-clause-there : goal.follow-requires-clause-there
follow-requires-clause-there c =
    (step_there c.args.sys.now c.requires.0 c.loop-step.origins.items c.args.steps.now c.loop-step.step-index c.step-item.result c.loop-step-test.true c.step-item.is
    (c.loop-step.invariant c.requires.0 c.requires.1)).1

pub loop-step-preserved : goal.loop-step-preserved
loop-step-preserved c = λ last all.
    subst (λ z. LeadOn c.args.sys.now last z (map simp_view (drop (c.loop-step.step-index + 1) c.args.steps.now))) (sym c.follow.ensures)
    (step_followed c.args.sys.now last c.loop-step.origins.items c.args.steps.now c.loop-step.step-index c.step-item.result c.loop-step-test.true c.step-item.is (c.loop-step.invariant last all))

pub returns : goal.returns
returns c = λ last all. steps_followed c.args.sys.now last c.loop-step.origins.items c.args.steps.now c.loop-step.step-index c.loop-step-test.false (c.loop-step.invariant last all)
