use Rattle.std.proofs.Common.{subst}
use Rattle.valid_certificates.specs.Confluence.{IsInOrthoClasses}
use Rattle.ortho_check.proofs.Judging.{pairs_started}
use Rattle.ortho_check.proofs.run.start_pairs.Goals as goal

pub returns : goal.returns
returns c = pairs_started c.args.sys.now c.start.result (subst IsInOrthoClasses c.system.ensures c.in_ok-check_classes.ensures) c.start.ensures
