use Rattle.std.proofs.Common.{length}
use Rattle.ari_text.proofs.Parts.{ArePartsSoFar}
use Rattle.ari_text.proofs.rules.read_parts.Given as goal

abbrev pub invariant-parts : goal.invariant-parts
invariant-parts l = ArePartsSoFar l.initial.reader l.reader l.scope.functions.symbols l.rules.items

abbrev pub decreases-parts : goal.decreases-parts
decreases-parts l = length l.reader
