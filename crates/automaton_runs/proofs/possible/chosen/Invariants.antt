use Rattle.number_sets.specs.Sets.{members}
use Rattle.automaton_runs.specs.Choices.{as_lists}
use Rattle.automaton_runs.proofs.MayArrive.{AreChosenBelow}
use Rattle.automaton_runs.proofs.possible.chosen.Given as goal

abbrev pub invariant-loop-number : goal.invariant-loop-number
invariant-loop-number l = AreChosenBelow (as_lists l.lists) (members l.set) l.number (as_lists l.made.items)
