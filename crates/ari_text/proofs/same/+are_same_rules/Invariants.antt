use Rattle.std.proofs.Common.{length}
use Rattle.ari_text.proofs.same.+are_same_rules.Given as goal

abbrev pub decreases-are_same_rules : goal.decreases-are_same_rules
decreases-are_same_rules l = length l.first.now
