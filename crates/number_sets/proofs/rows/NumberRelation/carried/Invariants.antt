use Rattle.std.proofs.Common.{◌↔◌, ℕ, ◌<◌}
use Rattle.number_sets.specs.Relation.{Relates}
use Rattle.number_sets.proofs.rows.NumberRelation.carried.Given as goal

abbrev pub invariant-loop-left : goal.invariant-loop-left
invariant-loop-left l = (p q : ℕ) → Relates l.made p q ↔ ((s : ℕ) × (s < l.left) × (Relates l.by s p × Relates l.self s q))
