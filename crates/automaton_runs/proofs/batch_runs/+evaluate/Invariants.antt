use Rattle.std.proofs.Common.{take}
use Rattle.std.specs.List.{AllZip}
use Rattle.term_core.specs.View.{view}
use Rattle.automaton_runs.specs.Reached.{AreWhere, Reaches}
use Rattle.automaton_runs.specs.Relations.{relation_of}
use Rattle.automaton_runs.proofs.batch_runs.+evaluate.Given as goal

abbrev pub invariant-evaluate_each-loop-arg : goal.invariant-evaluate_each-loop-arg
invariant-evaluate_each-loop-arg l = AllZip (λ t e. AreWhere l.batch (Reaches l.index l.names (view t)) (relation_of e)) (take l.arg-index l.args) l.made.items
