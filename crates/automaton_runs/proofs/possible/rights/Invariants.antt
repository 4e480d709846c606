use Rattle.std.proofs.Common.{ℕ, ◌<◌}
use Rattle.rewriting.specs.Lists.{IsAmong}
use Rattle.number_sets.specs.Sets.{members}
use Rattle.number_sets.specs.Relation.{Relates}
use Rattle.automaton_runs.proofs.possible.rights.Given as goal

abbrev pub invariant-loop-left : goal.invariant-loop-left
invariant-loop-left l = (p q : ℕ) → p < l.left → Relates l.relation p q → IsAmong q (members l.set)
