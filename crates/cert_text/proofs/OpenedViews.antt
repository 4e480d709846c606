-- What a text that is opened stands for.
use Rattle.cert_text.proofs.Prelude.{◌≡◌, map, Vec, Global, Box, rules, measure_view, peak_view, simp_view, ortho_opening, quasi_opening, Reading, at_entries, whole, behind_steps, opened_view, Opened}
use Rattle.cert_text.proofs.Prelude.{Ortho, Quasi, Simplified, the_lemmas}
use Rattle.certificates.specs.Certificates.{peak_certificate}
use Rattle.cert_model.specs.declared.model.MeasureCert.{MeasureCert}
use Rattle.cert_model.specs.declared.model.Simp.{Simp}
use Rattle.cert_text.specs.declared.opening.Opened.{Peak}
use Rattle.cert_model.specs.declared.model.Peak as peaks

pub ortho_opened : (pairs : Reading) → opened_view (Ortho pairs) ≡ at_entries ortho_opening pairs
ortho_opened pairs = search (rules, the_lemmas)

pub quasi_opened : (measure : MeasureCert) (pairs : Reading) → opened_view (Quasi measure pairs) ≡ at_entries (quasi_opening (measure_view measure)) pairs
quasi_opened measure pairs = search (rules, the_lemmas)

pub peak_opened : (peak : peaks.Peak) → opened_view (Peak peak) ≡ whole (peak_certificate (peak_view peak))
peak_opened peak = search (rules, the_lemmas)

pub simplified_opened : (steps : Vec Simp Global) (body : Box Opened Global) → opened_view (Simplified steps body) ≡ behind_steps (map simp_view steps.items) (opened_view body.value)
simplified_opened steps body = search (rules, the_lemmas)
