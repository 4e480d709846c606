use Rattle.std.proofs.Common.{take}
use Rattle.number_sets.specs.Sets.{members}
use Rattle.automaton_runs.specs.Choices.{as_lists}
use Rattle.automaton_runs.specs.Possible.{AreAnywhere}
use Rattle.automaton_runs.proofs.possible.put_anywhere.Given as goal

abbrev pub invariant-loop-pool : goal.invariant-loop-pool
invariant-loop-pool l = AreAnywhere (as_lists (take l.pool-index l.pools)) (members l.all) l.fn.places.items l.places.items
