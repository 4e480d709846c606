use Rattle.std.proofs.Common.{◌≤◌, length}
use Rattle.ari_text.proofs.Bodies.{ArePassed}
use Rattle.ari_text.proofs.reader.Reader.key.Given as goal

abbrev pub invariant-parts : goal.invariant-parts
invariant-parts l = record {
  read : ArePassed l.initial.self l.self;
  onward : length l.self ≤ length l.initial.self;
}

abbrev pub decreases-parts : goal.decreases-parts
decreases-parts l = length l.self
