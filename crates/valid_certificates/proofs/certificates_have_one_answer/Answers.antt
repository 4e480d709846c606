use Rattle.valid_certificates.proofs.OneCertificate.{certificate_answer}
use Rattle.valid_certificates.proofs.certificates_have_one_answer.Goals as goal

pub returns : goal.returns
returns c = certificate_answer
