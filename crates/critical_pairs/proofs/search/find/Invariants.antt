use Rattle.std.proofs.Common.{length}
use Rattle.critical_pairs.specs.Offers.{DoesPass}
use Rattle.critical_pairs.specs.Cursors.{rest_of, IsCursor}
use Rattle.critical_pairs.proofs.search.find.Given as goal

abbrev pub decreases-loop-inner : goal.decreases-loop-inner
decreases-loop-inner l = length (rest_of l.sys l.cursor)

abbrev pub invariant-loop-inner : goal.invariant-loop-inner
invariant-loop-inner l = record {
  cursor : IsCursor l.sys l.cursor;
  passes : DoesPass l.sys (rest_of l.sys l.fn.cursor) (rest_of l.sys l.cursor);
}
