use Rattle.std.proofs.Common.{take}
use Rattle.rewriting.specs.Variables.{occurrences_in}
use Rattle.term_core.specs.View.{views}
use Rattle.term_core.specs.Noting.{AreNoted}
use Rattle.term_core.proofs.variables.+note_all.Given as goal

abbrev pub invariant-loop-arg : goal.invariant-loop-arg
invariant-loop-arg l = AreNoted (λ x. occurrences_in x (views (take l.arg-index l.arg-items))) l.fn.seen l.seen l.fn.repeated l.repeated
