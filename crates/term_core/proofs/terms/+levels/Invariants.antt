use Rattle.std.proofs.Common.{◌≡◌, drop, max}
use Rattle.rewriting.specs.Terms as math
use Rattle.term_core.specs.View.{views}
use Rattle.term_core.proofs.terms.+levels.Given as goal

abbrev pub invariant-loop-arg : goal.invariant-loop-arg
invariant-loop-arg l = max l.deepest (math.depth_all (views (drop l.arg-index l.arg-items))) ≡ math.depth_all (views l.arg-items)
