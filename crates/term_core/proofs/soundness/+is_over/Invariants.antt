use Rattle.std.proofs.Common.{drop, ◌↔◌}
use Rattle.rewriting.specs.Signatures.{AreOver}
use Rattle.term_core.specs.View.{views}
use Rattle.term_core.proofs.soundness.+is_over.Given as goal

abbrev pub invariant-loop-arg : goal.invariant-loop-arg
invariant-loop-arg l = AreOver l.arities (views l.arg-items) ↔ AreOver l.arities (views (drop l.arg-index l.arg-items))
