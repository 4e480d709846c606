use Rattle.std.proofs.Common.{length}
use Rattle.derivation.proofs.places.+exchange.Given as goal

abbrev pub decreases-exchange : goal.decreases-exchange
decreases-exchange l = length l.p.now
