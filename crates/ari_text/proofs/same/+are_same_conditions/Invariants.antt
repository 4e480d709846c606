use Rattle.std.proofs.Common.{length}
use Rattle.ari_text.proofs.same.+are_same_conditions.Given as goal

abbrev pub decreases-are_same_conditions : goal.decreases-are_same_conditions
decreases-are_same_conditions l = length l.first.now
