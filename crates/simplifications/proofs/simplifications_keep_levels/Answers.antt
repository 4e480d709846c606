use Rattle.simplifications.proofs.Levels.{keep_levels}
use Rattle.simplifications.proofs.Alike.{alike}
use Rattle.simplifications.proofs.simplifications_keep_levels.Goals as goal

pub returns-clause-levels : goal.returns-clause-levels
returns-clause-levels c = keep_levels

pub returns-clause-alike : goal.returns-clause-alike
returns-clause-alike c = alike
