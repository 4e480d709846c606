use Rattle.std.proofs.Common.{◌≡◌, ◌≤◌, drop, length}
use Rattle.automaton_runs.specs.Choices.{as_lists, choices_of}
use Rattle.automaton_runs.proofs.listing.choices.Given as goal

abbrev pub invariant-pools : goal.invariant-pools
invariant-pools l = record { within : l.place ≤ length l.pools; made : as_lists l.made.items ≡ choices_of (drop l.place (as_lists l.pools)) }

abbrev pub decreases-pools : goal.decreases-pools
decreases-pools l = l.place
