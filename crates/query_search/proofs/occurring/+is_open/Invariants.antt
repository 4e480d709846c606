use Rattle.std.proofs.Common.{length}
use Rattle.query_search.proofs.occurring.+is_open.Given as goal

abbrev pub decreases-is_open : goal.decreases-is_open
decreases-is_open l = length l.conds.now
