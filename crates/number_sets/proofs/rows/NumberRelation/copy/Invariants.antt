use Rattle.std.proofs.Common.{◌≡◌, map, take}
use Rattle.number_sets.specs.Sets.{members}
use Rattle.number_sets.proofs.rows.NumberRelation.copy.Given as goal

abbrev pub invariant-loop-row : goal.invariant-loop-row
invariant-loop-row l = map members l.rows.items ≡ map members (take l.row-index l.self.rows.items)
