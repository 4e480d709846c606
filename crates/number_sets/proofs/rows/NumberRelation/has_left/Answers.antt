use Rattle.number_sets.specs.Sets.{members}
use Rattle.number_sets.specs.Relation.{row_of}
use Rattle.number_sets.proofs.Related.{has_some}
use Rattle.number_sets.proofs.rows.NumberRelation.has_left.Goals as goal

pub returns-in-Some : goal.returns-in-Some
returns-in-Some c = has_some (members c.in-Some.row.now) (row_of c.args.self.now c.args.left) c.is_empty.result c.is_empty.ensures c.in-Some.ensures
