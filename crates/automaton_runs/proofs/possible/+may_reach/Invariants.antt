use Rattle.std.proofs.Common.{take}
use Rattle.std.specs.List.{AllZip}
use Rattle.number_sets.specs.Sets.{members}
use Rattle.term_core.specs.View.{view}
use Rattle.automaton_runs.specs.Possible.{MayReach}
use Rattle.automaton_runs.specs.Relations.{relation_of}
use Rattle.automaton_runs.proofs.possible.+may_reach.Given as goal

abbrev pub invariant-may_reach_each-loop-arg : goal.invariant-may_reach_each-loop-arg
invariant-may_reach_each-loop-arg l = AllZip (λ t e. MayReach l.index (members l.all) l.places (view t) (relation_of e)) (take l.arg-index l.args) l.made.items
