use Rattle.std.proofs.Common.{◌≡◌, length, take, drop}
use Rattle.matching.specs.Trails.{without}
use Rattle.matching.proofs.trail.take_back.Given as goal

abbrev pub decreases-trail : goal.decreases-trail
decreases-trail l = length l.trail.items

abbrev pub invariant-trail : goal.invariant-trail
invariant-trail l = record {
  values : without l.values (drop l.from l.trail.items) ≡ without l.fn.values (drop l.from l.fn.trail.items);
  before : take l.from l.trail.items ≡ take l.from l.fn.trail.items;
}
