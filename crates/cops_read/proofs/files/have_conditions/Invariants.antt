use Rattle.std.proofs.Common.{◌≡◌, drop}
use Rattle.cops_read.specs.RuleSteps.{have_bars}
use Rattle.cops_read.proofs.files.have_conditions.Given as goal

abbrev pub invariant-loop-rule : goal.invariant-loop-rule
invariant-loop-rule l = have_bars l.rules ≡ have_bars (drop l.rule-index l.rules)
