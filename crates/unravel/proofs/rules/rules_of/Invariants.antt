use Rattle.unravel.proofs.Progress.{Progress}
use Rattle.unravel.proofs.rules.rules_of.Given as goal

abbrev pub invariant-loop-i : goal.invariant-loop-i
invariant-loop-i l = Progress l.first l.rules l.i l.symbol l.out.items
