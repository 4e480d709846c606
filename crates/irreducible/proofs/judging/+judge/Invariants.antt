use Rattle.rewriting.specs.Terms.{size}
use Rattle.term_core.specs.View.{view}
use Rattle.irreducible.proofs.Parts.{Judged}
use Rattle.irreducible.proofs.judging.+judge.Given as goal

abbrev pub decreases-judge : goal.decreases-judge
decreases-judge l = size (view l.part.now)

abbrev pub invariant-loop-arg : goal.invariant-loop-arg
invariant-loop-arg l = Judged l.sys l.arg-items l.arg-index
