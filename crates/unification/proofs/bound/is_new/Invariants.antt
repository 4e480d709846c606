use Rattle.std.proofs.Common.{take, map}
use Rattle.unification.specs.Solving.{shared, IsNewTo}
use Rattle.unification.proofs.bound.is_new.Given as goal

abbrev pub invariant-loop-bound : goal.invariant-loop-bound
invariant-loop-bound l = IsNewTo l.x (map shared (take l.bound-index l.found))
