use Rattle.std.proofs.Common.{length, ◌-◌}
use Rattle.critical_pairs.specs.Offers.{DoesPass}
use Rattle.critical_pairs.specs.Cursors.{rest_of, IsCursor}
use Rattle.critical_pairs.proofs.cursor.Cursor.settle.Given as goal

abbrev pub decreases-rules : goal.decreases-rules
decreases-rules l = length l.sys.rules - l.self.outer

abbrev pub invariant-rules : goal.invariant-rules
invariant-rules l = record {
  cursor : IsCursor l.sys l.self;
  passes : DoesPass l.sys (rest_of l.sys l.fn.self) (rest_of l.sys l.self);
}
