use Rattle.std.proofs.Common.{◌≡◌, ◌↔◌, ℕ, ◌<◌}
use Rattle.number_sets.specs.Relation.{Relates}
use Rattle.number_sets.proofs.rows.NumberRelation.converse.Given as goal

abbrev pub invariant-loop-left : goal.invariant-loop-left
invariant-loop-left l = (p q : ℕ) → Relates l.made p q ↔ ((s : ℕ) × (s < l.left) × ((q ≡ s) × Relates l.self s p))
