use Rattle.std.proofs.Common.{drop, ◌↔◌}
use Rattle.term_core.specs.View.{views}
use Rattle.term_core.proofs.Covers.{CoversAll}
use Rattle.term_core.proofs.subst.Subst.+covers.Given as goal

abbrev pub invariant-loop-arg : goal.invariant-loop-arg
invariant-loop-arg l = CoversAll l.self (views l.arg-items) ↔ CoversAll l.self (views (drop l.arg-index l.arg-items))
