use Rattle.std.proofs.Common.{drop}
use Rattle.term_core.specs.View.{views}
use Rattle.matching.proofs.Progress.{Progress}
use Rattle.matching.proofs.finding.+matching.Given as goal

abbrev pub invariant-match_all-loop-i : goal.invariant-match_all-loop-i
invariant-match_all-loop-i l = Progress l.fn.values l.values (views l.ps) (views l.ss) (views (drop l.i l.ps)) (views (drop l.i l.ss))
