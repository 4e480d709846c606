use Rattle.std.proofs.Common.{◌++◌}
use Rattle.term_core.specs.View.{view}
use Rattle.noncon_search.specs.Ends.{AreEnds}
use Rattle.wide_search.proofs.listed.refuted.Given as goal

abbrev pub invariant-ends : goal.invariant-ends
invariant-ends l = AreEnds l.sys (view l.start) (l.some.items ++ l.end-iterator.rest.items)
