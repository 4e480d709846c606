use Rattle.std.proofs.Common.{◌≡◌, take, drop, map}
use Rattle.rewriting.specs.Substitutions.{values_of, apply}
use Rattle.term_core.specs.View.{view, views}
use Rattle.term_core.proofs.Moving.{Moving}
use Rattle.term_core.proofs.subst.Subst.+moved.Given as goal

abbrev pub invariant-loop-arg : goal.invariant-loop-arg
invariant-loop-arg l = record {
  made : map view l.out.items ≡ map (λ t. apply (values_of l.fn.self) (view t)) (take l.arg-index l.arg-items);
  moving : Moving l.repeated (view l.t) (views (drop l.arg-index l.arg-items)) l.fn.self l.self;
}
