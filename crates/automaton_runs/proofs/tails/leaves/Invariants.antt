use Rattle.std.proofs.Common.{◌≡◌, length}
use Rattle.automaton_runs.specs.Choices.{as_lists}
use Rattle.automaton_runs.specs.Leaves.{AreAllStatesIn}
use Rattle.automaton_runs.proofs.tails.leaves.Given as goal

abbrev pub invariant-loop-place : goal.invariant-loop-place
invariant-loop-place l = record { long : length l.made.items ≡ l.place; each : AreAllStatesIn (as_lists l.lists) l.made.items }
