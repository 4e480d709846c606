-- A certificate with a measure that is rejected.
use Rattle.std.proofs.Common.{◌≡◌, sym, subst, List, map}
use Rattle.std.specs.Prelude.{Err}
use Rattle.rewriting.specs.Rules.{System}
use Rattle.certificates.specs.Certificates.{MeasureCertificate, quasi_certificate}
use Rattle.certificates.specs.Certificates as math
use Rattle.cert_model.specs.CertificateView.{pair_entry_view}
use Rattle.cert_model.specs.declared.model.PairEntry.{PairEntry}
use Rattle.validity.specs.declared.CheckError.{CheckError}
use Rattle.validity.specs.declared.CheckError.TheVariants.{Rejected, NoMemory}
use Rattle.validity.specs.Answers.{QuasiAnswers}
use Rattle.valid_certificates.specs.Certificates.{IsMeasureJudged}
use Rattle.cert_check.specs.Answers.{VerdictAnswers}

rejected_so : (sys : System) (m : MeasureCertificate) (es : List math.PairEntry) (e : CheckError) → QuasiAnswers (IsMeasureJudged sys m) sys es (Err e)
    → VerdictAnswers sys (quasi_certificate m es) (Err e)
rejected_so sys m es (Rejected reason) h = h
rejected_so sys m es NoMemory h = tt

-- the reason for its entries is the reason for the certificate
pub measured_rejected : (sys : System) (c : math.Certificate) (m : MeasureCertificate) (ps qs : List PairEntry) (e : CheckError)
    → c ≡ quasi_certificate m (map pair_entry_view qs) → ps ≡ qs → QuasiAnswers (IsMeasureJudged sys m) sys (map pair_entry_view ps) (Err e) → VerdictAnswers sys c (Err e)
measured_rejected sys c m ps qs e is same h =
    subst (λ d. VerdictAnswers sys d (Err e)) (sym is) (rejected_so sys m (map pair_entry_view qs) e (subst (λ x. QuasiAnswers (IsMeasureJudged sys m) sys (map pair_entry_view x) (Err e)) same h))
