use Rattle.std.proofs.Common.{◌≡◌, length}
use Rattle.critical_pairs.proofs.Numbers.{AreFirstNumbers}
use Rattle.critical_pairs.proofs.kept.numbers_now.Given as goal

abbrev pub invariant-loop-place : goal.invariant-loop-place
invariant-loop-place l = record {
  long : length l.now.items ≡ length l.earlier.rules;
  numbers : AreFirstNumbers l.origins l.now.items l.place;
}
