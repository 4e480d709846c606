use Rattle.std.proofs.Common.{length}
use Rattle.search_cases.proofs.answers.+do_fit.Given as goal

abbrev pub decreases-do_fit : goal.decreases-do_fit
decreases-do_fit l = length l.conds.now
