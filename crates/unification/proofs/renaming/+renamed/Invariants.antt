use Rattle.std.proofs.Common.{◌≡◌, take, map}
use Rattle.rewriting.specs.Prelude.{apply, size}
use Rattle.term_core.specs.View.{view}
use Rattle.unification.specs.Answers.{renaming}
use Rattle.unification.proofs.renaming.+renamed.Given as goal

abbrev pub invariant-loop-arg : goal.invariant-loop-arg
invariant-loop-arg l = map view l.out.items ≡ map (λ t. apply (renaming l.mul l.add) (view t)) (take l.arg-index l.arg-items)

abbrev pub decreases-renamed : goal.decreases-renamed
decreases-renamed l = size (view l.t.now)
