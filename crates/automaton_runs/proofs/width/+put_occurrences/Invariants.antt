use Rattle.std.proofs.Common.{◌≡◌, ◌++◌, drop}
use Rattle.rewriting.specs.Variables.{variable_occurrences_of}
use Rattle.term_core.specs.View.{views}
use Rattle.automaton_runs.proofs.width.+put_occurrences.Given as goal

abbrev pub invariant-loop-arg : goal.invariant-loop-arg
invariant-loop-arg l = l.out.items ++ variable_occurrences_of (views (drop l.arg-index l.arg-items)) ≡ l.fn.out.items ++ variable_occurrences_of (views l.arg-items)
