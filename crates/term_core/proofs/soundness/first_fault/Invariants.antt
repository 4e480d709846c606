use Rattle.std.proofs.Common.{take}
use Rattle.term_core.specs.SystemView.{AreSound}
use Rattle.term_core.proofs.soundness.first_fault.Given as goal

abbrev pub invariant-loop-i : goal.invariant-loop-i
invariant-loop-i l = AreSound l.arities (take l.i l.rules)
