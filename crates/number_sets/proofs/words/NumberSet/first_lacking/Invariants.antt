use Rattle.std.proofs.Common.{◌*◌}
use Rattle.number_sets.specs.Words.{AreHad}
use Rattle.number_sets.proofs.words.NumberSet.first_lacking.Given as goal

abbrev pub invariant-loop-place : goal.invariant-loop-place
invariant-loop-place l = AreHad l.self.words.items l.other.words.items (64 * l.place)
