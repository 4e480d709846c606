use Rattle.number_sets.proofs.Related.{FirstBelow}
use Rattle.number_sets.proofs.rows.NumberRelation.first_lacking.Given as goal

abbrev pub invariant-loop-left : goal.invariant-loop-left
invariant-loop-left l = FirstBelow l.self l.other l.left l.first
