use Rattle.std.proofs.Common.{ap, ◌∙◌, map}
use Rattle.certificates.specs.Certificates.{peak_certificate}
use Rattle.cert_model.specs.CertificateView.{measure_view, peak_view, simp_view}
use Rattle.cert_openings.specs.Openings.{ortho_opening, quasi_opening}
use Rattle.cert_text.specs.OpenedText.{opened_view}
use Rattle.cert_text.proofs.OpenedViews.{ortho_opened, quasi_opened, peak_opened, simplified_opened}
use Rattle.cert_check.proofs.Texts.{read_so, rest_answered, peak_text}
use Rattle.cert_check.proofs.Simplified.{never_simplified}
use Rattle.cert_check.proofs.bytes.read_on.Goals as goal

pub pass_entries-requires : goal.pass_entries-requires
pass_entries-requires c =
    let o = c.requires.opened in
    read_so o.0 o.1 o.2 ortho_opening c.in-Ortho.pairs (opened_view c.args.opened) (ap opened_view c.in-Ortho.is ∙ ortho_opened c.in-Ortho.pairs) o.3

pub returns-in-Ortho : goal.returns-in-Ortho
returns-in-Ortho c = λ names bytes before h.
    rest_answered names bytes before ortho_opening c.in-Ortho.pairs (opened_view c.args.opened) (ap opened_view c.in-Ortho.is ∙ ortho_opened c.in-Ortho.pairs) h
    c.pass_entries.result c.pass_entries.ensures

pub pass_entries-requires-in-Quasi : goal.pass_entries-requires-in-Quasi
pass_entries-requires-in-Quasi c =
    let o = c.requires.opened in
    read_so o.0 o.1 o.2 (quasi_opening (measure_view c.in-Quasi.field-0)) c.in-Quasi.pairs (opened_view c.args.opened)
    (ap opened_view c.in-Quasi.is ∙ quasi_opened c.in-Quasi.field-0 c.in-Quasi.pairs) o.3

pub returns-in-Quasi : goal.returns-in-Quasi
returns-in-Quasi c = λ names bytes before h.
    rest_answered names bytes before (quasi_opening (measure_view c.in-Quasi.field-0)) c.in-Quasi.pairs (opened_view c.args.opened)
    (ap opened_view c.in-Quasi.is ∙ quasi_opened c.in-Quasi.field-0 c.in-Quasi.pairs) h c.pass_entries-in-Quasi.result c.pass_entries-in-Quasi.ensures

pub returns-in-Peak : goal.returns-in-Peak
returns-in-Peak c = λ names bytes before h. (
  peak_certificate (peak_view c.in-Peak.field-0),
  peak_text names bytes before (peak_view c.in-Peak.field-0) (opened_view c.args.opened) (ap opened_view c.in-Peak.is ∙ peak_opened c.in-Peak.field-0) h,
)

pub unreachable-requires : goal.unreachable-requires
unreachable-requires c =
    never_simplified (map simp_view c.in-Simplified.field-0.items) (opened_view c.args.opened) (opened_view c.in-Simplified.field-1.value)
    (ap opened_view c.in-Simplified.is ∙ simplified_opened c.in-Simplified.field-0 c.in-Simplified.field-1) c.requires.bare
