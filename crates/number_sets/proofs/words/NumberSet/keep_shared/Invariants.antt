use Rattle.number_sets.proofs.Shared.{AreShared}
use Rattle.number_sets.proofs.words.NumberSet.keep_shared.Given as goal

abbrev pub invariant-loop-place : goal.invariant-loop-place
invariant-loop-place l = AreShared l.fn.self.words.items l.other.words.items l.self.words.items l.place
