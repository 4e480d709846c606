use Rattle.number_sets.specs.Words.{AreHad}
use Rattle.number_sets.proofs.sets.first_lacking.Given as goal

abbrev pub invariant-loop-number : goal.invariant-loop-number
invariant-loop-number l = AreHad l.words l.others l.number
