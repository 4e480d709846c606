use Rattle.std.proofs.Common.{◌*◌, ◌≤◌, length}
use Rattle.number_sets.specs.Words.{AreJoined}
use Rattle.number_sets.proofs.Shared.{both_words}
use Rattle.number_sets.proofs.words.NumberSet.insert_shared.Given as goal

abbrev pub invariant-loop-place : goal.invariant-loop-place
invariant-loop-place l = record {
  long : l.count ≤ length l.self.words.items;
  joined : AreJoined l.fn.self.words.items (both_words l.first.words.items l.second.words.items) l.self.words.items (64 * l.place);
}
