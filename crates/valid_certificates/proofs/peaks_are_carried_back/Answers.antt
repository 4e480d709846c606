use Rattle.valid_certificates.proofs.CarriedBack.{peaks_back}
use Rattle.valid_certificates.proofs.peaks_are_carried_back.Goals as goal

pub returns : goal.returns
returns c = peaks_back
