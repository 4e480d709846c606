use Rattle.std.proofs.Common.{◌≡◌, length, ◌-◌}
use Rattle.critical_pairs.specs.Offers.{DoesPass}
use Rattle.critical_pairs.specs.Cursors.{rest_of}
use Rattle.critical_pairs.proofs.cursor.Cursor.settle_in_rule.Given as goal

abbrev pub decreases-loop-self : goal.decreases-loop-self
decreases-loop-self l = length l.self.places.items - l.self.place

abbrev pub invariant-loop-self : goal.invariant-loop-self
invariant-loop-self l = record {
  outer : l.self.outer ≡ l.fn.self.outer;
  places : l.self.places ≡ l.fn.self.places;
  passes : DoesPass l.sys (rest_of l.sys l.fn.self) (rest_of l.sys l.self);
}
