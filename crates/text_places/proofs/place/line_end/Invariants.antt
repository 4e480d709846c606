-- No line feed was passed.
use Rattle.std.proofs.Common.{◌≤◌, ◌-◌, length}
use Rattle.text_places.specs.Places.{HasNoFeed}
use Rattle.text_places.proofs.place.line_end.Given as goal

abbrev pub invariant-loop-end : goal.invariant-loop-end
invariant-loop-end l = (l.at ≤ l.end) × (l.end ≤ length l.bytes) × HasNoFeed l.bytes l.at l.end

abbrev pub decreases-loop-end : goal.decreases-loop-end
decreases-loop-end l = length l.bytes - l.end
