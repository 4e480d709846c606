-- The answer lines of certificates.
use Rattle.std.proofs.Common.{◌≡◌, refl}
use Rattle.certificates.specs.Certificates.{Certificate, ortho_certificate, quasi_certificate, peak_certificate, simplified_certificate}
use Rattle.cert_grammar.specs.CertificateText.{answer_line}
use Rattle.cert_check.specs.Kinds.{verdict_of}
use Rattle.run_parts.specs.Answers.{verdict_text}

-- the answer line is the one of what a certificate shows
pub verdict_told : (c : Certificate) → verdict_text (verdict_of c) ≡ answer_line c
verdict_told (ortho_certificate pairs) = refl
verdict_told (quasi_certificate measure pairs) = refl
verdict_told (peak_certificate peak) = refl
verdict_told (simplified_certificate steps c) = verdict_told c
