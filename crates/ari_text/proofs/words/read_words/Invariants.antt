use Rattle.std.proofs.Common.{length, ◌-◌}
use Rattle.ari_text.proofs.Spelt.{IsSpeltTo}
use Rattle.ari_text.proofs.words.read_words.Given as goal

abbrev pub invariant-pieces : goal.invariant-pieces
invariant-pieces l = IsSpeltTo l.bytes l.words.items l.at

abbrev pub decreases-pieces : goal.decreases-pieces
decreases-pieces l = length l.bytes - l.at
