use Rattle.std.proofs.Common.{◌*◌, ◌≤◌, length}
use Rattle.number_sets.specs.Words.{AreJoined}
use Rattle.number_sets.proofs.words.NumberSet.insert_all.Given as goal

abbrev pub invariant-loop-place : goal.invariant-loop-place
invariant-loop-place l = record {
  long : length l.other.words.items ≤ length l.self.words.items;
  joined : AreJoined l.fn.self.words.items l.other.words.items l.self.words.items (64 * l.place);
}
