use Rattle.std.proofs.Common.{List, ℕ, take}
use Rattle.rewriting.specs.Lists.{IsAmong}
use Rattle.automaton_runs.specs.Choices.{as_lists}
use Rattle.automaton_runs.specs.Leaves.{AreZeros}
use Rattle.automaton_runs.proofs.tails.are_zeros.Given as goal

abbrev pub invariant-loop-list : goal.invariant-loop-list
invariant-loop-list l = (list : List ℕ) → IsAmong list (as_lists (take l.list-index l.lists)) → AreZeros list
