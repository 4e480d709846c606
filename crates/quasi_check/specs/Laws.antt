-- What a valid certificate shows.
use Rattle.std.specs.Prelude.{List}
use Rattle.rewriting.specs.Prelude.{System, IsWellFormed, IsConfluent}
use Rattle.certificates.specs.Certificates.{MeasureCertificate, PairEntry, quasi_certificate}
use Rattle.valid_certificates.specs.Certificates.{IsValid}

-- a system with a valid certificate with a measure is confluent
abbrev pub ValidMeasuredSystemsAreConfluent : Type 0
ValidMeasuredSystemsAreConfluent = (sys : System) (m : MeasureCertificate) (es : List PairEntry) → IsWellFormed sys → IsValid sys (quasi_certificate m es) → IsConfluent sys
