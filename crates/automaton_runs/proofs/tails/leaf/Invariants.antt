use Rattle.std.proofs.Common.{◌↔◌, ◌<◌, ℕ}
use Rattle.number_sets.specs.Relation.{Relates}
use Rattle.automaton_runs.specs.Choices.{as_lists}
use Rattle.automaton_runs.proofs.BatchParts.{HasAt}
use Rattle.automaton_runs.proofs.tails.leaf.Given as goal

abbrev pub invariant-loop-k : goal.invariant-loop-k
invariant-loop-k l = (q k : ℕ) → Relates l.made q k ↔ ((k < l.k) × HasAt (as_lists l.lists) l.place k q)
