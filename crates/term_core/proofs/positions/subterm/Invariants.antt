use Rattle.std.proofs.Common.{◌≡◌, drop}
use Rattle.rewriting.specs.Positions as position
use Rattle.term_core.specs.View.{view}
use Rattle.term_core.proofs.positions.subterm.Given as goal

abbrev pub invariant-loop-k : goal.invariant-loop-k
invariant-loop-k l = position.subterm (view l.here) (drop l.k-index l.p) ≡ position.subterm (view l.fn.t) l.p
