use Rattle.redex_conditions.proofs.Completing.{IsCompleted}
use Rattle.redex_conditions.proofs.conditions.complete.Given as goal

abbrev pub invariant-loop-k : goal.invariant-loop-k
invariant-loop-k l = IsCompleted l.own l.fn.values l.values l.k
