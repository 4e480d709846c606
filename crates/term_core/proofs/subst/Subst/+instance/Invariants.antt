use Rattle.std.proofs.Common.{◌≡◌, take, map}
use Rattle.rewriting.specs.Substitutions.{values_of, apply}
use Rattle.term_core.specs.View.{view}
use Rattle.term_core.proofs.subst.Subst.+instance.Given as goal

abbrev pub invariant-loop-arg : goal.invariant-loop-arg
invariant-loop-arg l = map view l.out.items ≡ map (λ t. apply (values_of l.self) (view t)) (take l.arg-index l.arg-items)
