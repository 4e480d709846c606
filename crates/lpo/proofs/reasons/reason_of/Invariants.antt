use Rattle.lpo.proofs.FirstReason.{Walk}
use Rattle.lpo.proofs.reasons.reason_of.Given as goal

abbrev pub invariant-loop-i : goal.invariant-loop-i
invariant-loop-i l = Walk l.first l.rules l.fn.shape l.places l.i l.symbol l.before l.reason
