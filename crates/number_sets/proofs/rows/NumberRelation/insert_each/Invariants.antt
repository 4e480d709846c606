use Rattle.std.proofs.Common.{◌↔◌, ◌⊎◌, ℕ, take}
use Rattle.rewriting.specs.Lists.{IsAmong}
use Rattle.number_sets.specs.Sets.{members}
use Rattle.number_sets.specs.Relation.{Relates}
use Rattle.number_sets.proofs.rows.NumberRelation.insert_each.Given as goal

abbrev pub invariant-loop-left : goal.invariant-loop-left
invariant-loop-left l = (p q : ℕ) → Relates l.self p q ↔ (Relates l.fn.self p q ⊎ (IsAmong p (take l.left-index l.lefts) × IsAmong q (members l.set)))
