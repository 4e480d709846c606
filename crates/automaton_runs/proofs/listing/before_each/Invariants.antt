use Rattle.std.proofs.Common.{◌≡◌, ◌++◌, drop}
use Rattle.automaton_runs.specs.Choices.{as_lists, before_each}
use Rattle.automaton_runs.proofs.listing.before_each.Given as goal

abbrev pub invariant-loop-state : goal.invariant-loop-state
invariant-loop-state l = as_lists l.made.items ++ before_each (drop l.state-index l.states) (as_lists l.lists) ≡ before_each l.states (as_lists l.lists)
