use Rattle.valid_certificates.proofs.Total.{every_certificate}
use Rattle.valid_certificates.proofs.certificates_have_an_answer.Goals as goal

pub returns : goal.returns
returns c = every_certificate
