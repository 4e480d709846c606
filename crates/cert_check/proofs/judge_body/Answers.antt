use Rattle.std.proofs.Common.{sym, ap, ◌∙◌, subst}
use Rattle.cert_model.proofs.CertificateViews.{quasi_shown}
use Rattle.term_core.proofs.Rules.{handed_on}
use Rattle.cert_model.specs.CertificateView.{measure_view, certificate_view}
use Rattle.cert_check.specs.Answers.{VerdictAnswers}
use Rattle.cert_check.proofs.Rejected.{measured_rejected}
use Rattle.cert_check.proofs.judge_body.Goals as goal

pub returns-in_err-check_measured-in-Quasi-clause-judged : goal.returns-in_err-check_measured-in-Quasi-clause-judged
returns-in_err-check_measured-in-Quasi-clause-judged c =
    subst (VerdictAnswers c.args.sys.now (certificate_view c.args.cert.now)) (sym (handed_on _ _ c.from_residual-in_err-check_measured-in-Quasi.ensures.1))
    (measured_rejected c.args.sys.now (certificate_view c.args.cert.now) (measure_view c.in-Quasi.measure) c.deref-in-Quasi.result.now c.in-Quasi.pairs.items
    c.in_err-check_measured-in-Quasi.field-0.0 (ap certificate_view c.in-Quasi.is ∙ quasi_shown c.in-Quasi.measure c.in-Quasi.pairs) c.deref-in-Quasi.ensures.value
    c.in_err-check_measured-in-Quasi.ensures.judged)
