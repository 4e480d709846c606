use Rattle.ortho_check.proofs.Sound.{almost_orthogonal}
use Rattle.ortho_check.proofs.valid_certificates_are_confluent.Goals as goal

pub returns : goal.returns
returns c = λ sys es good valid. c.levels_commute.ensures.confluent sys (almost_orthogonal sys es good valid)
