use Rattle.std.proofs.Common.{◌<◌, ℕ}
use Rattle.rewriting.specs.Lists.{IsAmong}
use Rattle.number_sets.proofs.Related.{members_in}
use Rattle.number_sets.proofs.rows.NumberRelation.is_empty.Given as goal

abbrev pub invariant-loop-row : goal.invariant-loop-row
invariant-loop-row l = (p q : ℕ) → p < l.row-index → IsAmong q (members_in l.row-items p) → ⊥
