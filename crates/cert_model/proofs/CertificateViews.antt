-- What a certificate of each kind stands for.
use Rattle.std.proofs.Common.{◌≡◌, map, Vec, Global, Box, rules}
use Rattle.certificates.specs.Certificates.{ortho_certificate, quasi_certificate, peak_certificate, simplified_certificate}
use Rattle.cert_model.specs.CertificateView.{pair_entry_view, measure_view, peak_view, simp_view, certificate_view}
use Rattle.cert_model.specs.declared.model.PairEntry.{PairEntry}
use Rattle.cert_model.specs.declared.model.MeasureCert.{MeasureCert}
use Rattle.cert_model.specs.declared.model.Peak as peaks
use Rattle.cert_model.specs.declared.model.Simp.{Simp}
use Rattle.cert_model.specs.declared.model.Certificate.{Certificate, Ortho, Quasi, Peak, Simplified, the_lemmas}

pub ortho_shown : (pairs : Vec PairEntry Global) → certificate_view (Ortho pairs) ≡ ortho_certificate (map pair_entry_view pairs.items)
ortho_shown pairs = search (rules, the_lemmas)

pub quasi_shown : (measure : MeasureCert) (pairs : Vec PairEntry Global) → certificate_view (Quasi measure pairs) ≡ quasi_certificate (measure_view measure) (map pair_entry_view pairs.items)
quasi_shown measure pairs = search (rules, the_lemmas)

pub peak_shown : (peak : peaks.Peak) → certificate_view (Peak peak) ≡ peak_certificate (peak_view peak)
peak_shown peak = search (rules, the_lemmas)

pub simplified_shown : (steps : Vec Simp Global) (body : Box Certificate Global)
    → certificate_view (Simplified steps body) ≡ simplified_certificate (map simp_view steps.items) (certificate_view body.value)
simplified_shown steps body = search (rules, the_lemmas)
