use Rattle.std.proofs.Common.{◌≡◌, drop, max}
use Rattle.term_core.specs.View.{view, views}
use Rattle.grid_search.specs.Needed.{needed, needed_by}
use Rattle.grid_search.proofs.needs.+term_needs.Given as goal

abbrev pub invariant-arguments : goal.invariant-arguments
invariant-arguments l = max l.most (needed_by (views (drop l.arg-index l.arg-items))) ≡ needed (view l.fn.t)
