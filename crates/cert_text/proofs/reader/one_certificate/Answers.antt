use Rattle.cert_sharing.proofs.OneCertificate as both
use Rattle.cert_text.proofs.reader.one_certificate.Goals as goal

pub returns : goal.returns
returns c = both.one_certificate
