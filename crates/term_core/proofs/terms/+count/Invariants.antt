use Rattle.std.proofs.Common.{◌≡◌, ◌+◌, drop}
use Rattle.rewriting.specs.Terms as math
use Rattle.term_core.specs.View.{view, views}
use Rattle.term_core.proofs.terms.+count.Given as goal

abbrev pub invariant-loop-arg : goal.invariant-loop-arg
invariant-loop-arg l = l.n + math.size_all (views (drop l.arg-index l.arg-items)) ≡ math.size (view l.fn.t)
