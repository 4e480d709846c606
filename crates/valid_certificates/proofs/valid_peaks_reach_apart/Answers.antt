use Rattle.valid_certificates.proofs.Valid.{valid_peaks}
use Rattle.valid_certificates.proofs.valid_peaks_reach_apart.Goals as goal

pub returns : goal.returns
returns c = valid_peaks
