use Rattle.std.proofs.Common.{ap, ◌∙◌, map}
use Rattle.cert_model.specs.CertificateView.{measure_view, peak_view, simp_view}
use Rattle.cert_openings.specs.Openings.{ortho_opening, quasi_opening}
use Rattle.cert_text.specs.OpenedText.{opened_view}
use Rattle.cert_text.proofs.OpenedViews.{ortho_opened, quasi_opened, peak_opened, simplified_opened}
use Rattle.cert_check.proofs.Texts.{read_so, body_answered, never_no, never_yes, peak_judged, peak_answered, peak_shows}
use Rattle.cert_check.proofs.Simplified.{never_simplified}
use Rattle.cert_check.proofs.bytes.judge_opened.Goals as goal

pub judge_ortho-requires : goal.judge_ortho-requires
judge_ortho-requires c =
    let o = c.requires.opened in
    read_so o.0 o.1 o.2 ortho_opening c.in-Ortho.pairs (opened_view c.args.opened) (ap opened_view c.in-Ortho.is ∙ ortho_opened c.in-Ortho.pairs) o.3.opened

pub returns-in-Ortho-clause-answers : goal.returns-in-Ortho-clause-answers
returns-in-Ortho-clause-answers c = λ names bytes before h.
    body_answered names bytes before ortho_opening c.in-Ortho.pairs (opened_view c.args.opened) (ap opened_view c.in-Ortho.is ∙ ortho_opened c.in-Ortho.pairs) h.opened
    c.args.sys.now (λ es. tt) c.judge_ortho.result c.judge_ortho.ensures.answers

pub returns-in-Ortho-clause-no : goal.returns-in-Ortho-clause-no
returns-in-Ortho-clause-no c = never_no _ c.judge_ortho.result c.judge_ortho.ensures.no

pub judge_quasi-requires : goal.judge_quasi-requires
judge_quasi-requires c =
    let o = c.requires.opened in
    read_so o.0 o.1 o.2 (quasi_opening (measure_view c.in-Quasi.measure)) c.in-Quasi.pairs (opened_view c.args.opened)
    (ap opened_view c.in-Quasi.is ∙ quasi_opened c.in-Quasi.measure c.in-Quasi.pairs) o.3.opened

pub returns-in-Quasi-clause-answers : goal.returns-in-Quasi-clause-answers
returns-in-Quasi-clause-answers c = λ names bytes before h.
    body_answered names bytes before (quasi_opening (measure_view c.in-Quasi.measure)) c.in-Quasi.pairs (opened_view c.args.opened)
    (ap opened_view c.in-Quasi.is ∙ quasi_opened c.in-Quasi.measure c.in-Quasi.pairs) h.opened c.args.sys.now (λ es. tt) c.judge_quasi.result c.judge_quasi.ensures.answers

pub returns-in-Quasi-clause-no : goal.returns-in-Quasi-clause-no
returns-in-Quasi-clause-no c = never_no _ c.judge_quasi.result c.judge_quasi.ensures.no

pub judge_peak-requires : goal.judge_peak-requires
judge_peak-requires c =
    let o = c.requires.opened in
    peak_judged o.0 o.1 o.2 (peak_view c.in-Peak.peak) (opened_view c.args.opened) (ap opened_view c.in-Peak.is ∙ peak_opened c.in-Peak.peak) o.3.opened c.args.sys.now o.3.named

pub returns-in-Peak-clause-answers : goal.returns-in-Peak-clause-answers
returns-in-Peak-clause-answers c = λ names bytes before h.
    peak_answered names bytes before (peak_view c.in-Peak.peak) (opened_view c.args.opened) (ap opened_view c.in-Peak.is ∙ peak_opened c.in-Peak.peak) h.opened c.args.sys.now
    c.judge_peak.result c.judge_peak.ensures.answers

pub returns-in-Peak-clause-yes : goal.returns-in-Peak-clause-yes
returns-in-Peak-clause-yes c = never_yes _ c.judge_peak.result c.judge_peak.ensures.yes

pub returns-in-Peak-clause-no : goal.returns-in-Peak-clause-no
returns-in-Peak-clause-no c =
    peak_shows c.args.sys.now (peak_view c.in-Peak.peak) (opened_view c.args.opened) (ap opened_view c.in-Peak.is ∙ peak_opened c.in-Peak.peak) c.judge_peak.result c.judge_peak.ensures.apart

pub unreachable-requires : goal.unreachable-requires
unreachable-requires c =
    never_simplified (map simp_view c.in-Simplified.field-0.items) (opened_view c.args.opened) (opened_view c.in-Simplified.field-1.value)
    (ap opened_view c.in-Simplified.is ∙ simplified_opened c.in-Simplified.field-0 c.in-Simplified.field-1) c.requires.bare
