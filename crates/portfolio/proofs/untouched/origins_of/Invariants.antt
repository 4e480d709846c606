use Rattle.std.proofs.Common.{map, drop}
use Rattle.rewriting.specs.Rules.{System}
use Rattle.cert_model.specs.CertificateView.{simp_view}
use Rattle.simplifications.specs.Simplifying.{AllSimplify}
use Rattle.portfolio.proofs.StepOrigins.{LeadOn}
use Rattle.portfolio.proofs.untouched.origins_of.Given as goal

abbrev pub invariant-loop-step : goal.invariant-loop-step
invariant-loop-step l = (last : System) → AllSimplify l.sys (map simp_view l.steps) last → LeadOn l.sys last l.origins.items (map simp_view (drop l.step-index l.steps))
