use Rattle.std.proofs.Common.{length}
use Rattle.term_core.proofs.positions.+put.Given as goal

abbrev pub decreases-put : goal.decreases-put
decreases-put l = length l.p.now
