-- What the searches answer together, as an ending.
use Rattle.certificates.specs.Certificates as math
use Rattle.cert_model.specs.CertificateView.{certificate_view}
use Rattle.first_found.specs.Spaces.{Ending, found, nothing, spent}
use Rattle.portfolio.specs.declared.Outcome.{Outcome}
use Rattle.portfolio.specs.declared.Outcome.TheVariants.{Found, Exhausted, Spent}

abbrev pub outcome_ending : Outcome → Ending math.Certificate
outcome_ending (Found c) = found (certificate_view c)
outcome_ending Exhausted = nothing
outcome_ending Spent = spent
