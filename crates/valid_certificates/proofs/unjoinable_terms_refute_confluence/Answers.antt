use Rattle.valid_certificates.proofs.Valid.{refute_confluence}
use Rattle.valid_certificates.proofs.unjoinable_terms_refute_confluence.Goals as goal

pub returns : goal.returns
returns c = refute_confluence
