use Rattle.std.proofs.Common.{◌≤◌, length}
use Rattle.ari_text.proofs.Bodies.{IsInside}
use Rattle.ari_text.proofs.reader.Reader.skip.Given as goal

abbrev pub invariant-words : goal.invariant-words
invariant-words l = record {
  read : IsInside l.initial.self l.self l.open;
  onward : length l.self ≤ length l.initial.self;
}

abbrev pub decreases-words : goal.decreases-words
decreases-words l = length l.self
