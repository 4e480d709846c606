use Rattle.std.proofs.Common.{sym, subst}
use Rattle.term_core.specs.View.{view}
use Rattle.term_core.proofs.Rules.{handed_on}
use Rattle.cert_model.specs.CertificateView.{peak_view}
use Rattle.validity.specs.Answers.{PeakAnswers}
use Rattle.noncon_check.proofs.Apart.{start_rejected, first_rejected, second_rejected, ends_judged}
use Rattle.noncon_check.proofs.peaks.judge_peak.Goals as goal

pub returns-in_err-check_symbols : goal.returns-in_err-check_symbols
returns-in_err-check_symbols c =
    subst (PeakAnswers c.args.sys.now (peak_view c.args.peak.now)) (sym (handed_on _ _ c.from_residual.ensures.1))
    (start_rejected c.args.sys.now (peak_view c.args.peak.now) c.in_err-check_symbols.field-0.0 c.in_err-check_symbols.ensures)

pub returns-in_err-first : goal.returns-in_err-first
returns-in_err-first c =
    subst (PeakAnswers c.args.sys.now (peak_view c.args.peak.now)) (sym (handed_on _ _ c.from_residual-in_err-first.ensures.1))
    (first_rejected c.args.sys.now (peak_view c.args.peak.now) c.in_err-first.field-0.0 c.in_ok-check_symbols.ensures c.in_err-first.ensures)

pub returns-in_err-second : goal.returns-in_err-second
returns-in_err-second c =
    subst (PeakAnswers c.args.sys.now (peak_view c.args.peak.now)) (sym (handed_on _ _ c.from_residual-in_err-second.ensures.1))
    (second_rejected c.args.sys.now (peak_view c.args.peak.now) (view c.in_ok-first.first) c.in_err-second.field-0.0
    c.in_ok-check_symbols.ensures c.in_ok-first.ensures.derived c.in_err-second.ensures)

pub returns : goal.returns
returns c =
    ends_judged c.args.sys.now (peak_view c.args.peak.now) (view c.in_ok-first.first) (view c.in_ok-second.second) c.check_ends.result c.in_ok-check_symbols.ensures
    (record { first = c.in_ok-first.ensures.derived; second = c.in_ok-second.ensures.derived }) c.check_ends.ensures
