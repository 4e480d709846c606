use Rattle.std.proofs.Common.{map, subst₂}
use Rattle.certificates.specs.Judging.{IsFirstBad}
use Rattle.term_core.specs.Prelude.{view, condition_view}
use Rattle.cert_model.specs.DerivationView.{derivation_view}
use Rattle.cert_model.specs.ReasonView.{bad_step_view}
use Rattle.pair_check.proofs.derived.end_of.Goals as goal

pub returns-in-Err-Bad : goal.returns-in-Err-Bad
returns-in-Err-Bad c =
    let bad = bad_step_view c.in-Err-Bad.bad in (
      bad,
      c.reason_of.ensures,
      subst₂ (λ sys cs. IsFirstBad sys (map condition_view cs) (view c.args.start.now) (derivation_view c.args.d.now) bad) c.system.ensures c.deref.ensures.value
          (rw c.in-Err-Bad.field-0-is at c.in-Err-Bad.ensures.judged),
    )
