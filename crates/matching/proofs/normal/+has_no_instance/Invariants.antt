use Rattle.std.proofs.Common.{drop, ◌↔◌}
use Rattle.term_core.specs.View.{view, views}
use Rattle.matching.specs.Lists.{NoneHasInstance}
use Rattle.matching.proofs.normal.+has_no_instance.Given as goal

abbrev pub invariant-loop-arg : goal.invariant-loop-arg
invariant-loop-arg l = NoneHasInstance (view l.pattern) (views l.arg-items) ↔ NoneHasInstance (view l.pattern) (views (drop l.arg-index l.arg-items))
