use Rattle.std.proofs.Common.{sym, ap, subst, ◌∙◌}
use Rattle.term_core.proofs.Rules.{handed_on}
use Rattle.cert_model.specs.CertificateView.{certificate_view}
use Rattle.cert_model.proofs.CertificateViews.{simplified_shown}
use Rattle.cert_check.specs.Answers.{VerdictAnswers}
use Rattle.cert_check.proofs.Levels.{level_made, level_rejected}
use Rattle.cert_check.proofs.behind.judge_behind.Goals as goal

pub returns-in_err-last-2-clause-judged : goal.returns-in_err-last-2-clause-judged
returns-in_err-last-2-clause-judged c =
    subst (VerdictAnswers c.args.sys.now (certificate_view c.args.cert.now)) (sym (handed_on _ _ c.from_residual-in_err-last-2.ensures.1))
    (level_rejected c.args.sys.now (certificate_view c.args.cert.now) c.levels.last (certificate_view c.levels.body.now) (certificate_view c.in-Simplified.inner.value)
    c.in-Simplified.steps.items c.deref.result.now (ap certificate_view c.in-Simplified.is ∙ simplified_shown c.in-Simplified.steps c.in-Simplified.inner) c.deref.ensures.value
    c.levels.invariant c.in_err-last-2.field-0.0 c.in_err-last-2.ensures)

pub levels-preserved : goal.levels-preserved
levels-preserved c =
    level_made c.args.sys.now (certificate_view c.args.cert.now) c.levels.last (certificate_view c.levels.body.now) (certificate_view c.in-Simplified.inner.value)
    c.in-Simplified.steps.items c.deref.result.now (ap certificate_view c.in-Simplified.is ∙ simplified_shown c.in-Simplified.steps c.in-Simplified.inner) c.deref.ensures.value
    c.levels.invariant c.in_ok-last-2.last c.in_ok-last-2.ensures
    (certificate_view c.deref-body.result.now) (ap certificate_view c.deref-body.ensures)
