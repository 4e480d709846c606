use Rattle.std.proofs.Common.{◌≡◌, ◌≤◌, length}
use Rattle.ari_text.specs.Reads.{AreConditionsSoFar}
use Rattle.ari_text.proofs.rules.read_conditions.Given as goal

abbrev pub invariant-conditions : goal.invariant-conditions
invariant-conditions l = record {
  read : AreConditionsSoFar l.initial.reader l.reader l.bar l.conditions.items;
  onward : length l.reader ≤ length l.initial.reader;
  functions : l.scope.functions ≡ l.initial.scope.functions;
}

abbrev pub decreases-conditions : goal.decreases-conditions
decreases-conditions l = length l.reader
