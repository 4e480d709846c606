use Rattle.std.proofs.Common.{ℕ}
use Rattle.number_sets.specs.Relation.{Relates}
use Rattle.tree_automata.proofs.Accepted.{AreMarkedBelow}
use Rattle.tree_automata.proofs.accepts.mark_all.Given as goal

abbrev pub invariant-loop-q : goal.invariant-loop-q
invariant-loop-q l = AreMarkedBelow (λ q. (k : ℕ) × Relates l.reached q k) l.out l.q
