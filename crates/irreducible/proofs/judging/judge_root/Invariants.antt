use Rattle.term_core.specs.View.{view}
use Rattle.irreducible.proofs.Tried.{Tried}
use Rattle.irreducible.proofs.judging.judge_root.Given as goal

abbrev pub invariant-loop-number : goal.invariant-loop-number
invariant-loop-number l = Tried l.sys l.number-items (view l.part) l.number-index
