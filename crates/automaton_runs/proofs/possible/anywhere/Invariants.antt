use Rattle.std.proofs.Common.{take}
use Rattle.number_sets.specs.Sets.{members}
use Rattle.automaton_runs.specs.Possible.{IsAnywhere}
use Rattle.automaton_runs.proofs.possible.anywhere.Given as goal

abbrev pub invariant-loop-state : goal.invariant-loop-state
invariant-loop-state l = IsAnywhere (members l.all) (take l.state-index l.pool) l.made
