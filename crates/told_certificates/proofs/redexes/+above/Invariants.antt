use Rattle.std.proofs.Common.{◌≤◌}
use Rattle.told_certificates.proofs.redexes.+above.Given as goal

abbrev pub invariant-loop-arg : goal.invariant-loop-arg
invariant-loop-arg l = l.most ≤ 10000
