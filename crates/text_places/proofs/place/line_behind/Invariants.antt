-- Of the bytes before the index: their lines are counted, and the last begins at `start`.
use Rattle.std.proofs.Common.{◌≡◌, ◌≤◌, ◌+◌, take}
use Rattle.text_places.specs.Places.{feeds, BeginsLine, HasNoFeed}
use Rattle.text_places.proofs.place.line_behind.Given as goal

abbrev pub invariant-loop-i : goal.invariant-loop-i
invariant-loop-i l = (l.line ≡ feeds (take l.i l.bytes) + 1) × (l.start ≤ l.i) × BeginsLine l.bytes l.start × HasNoFeed l.bytes l.start l.i
