use Rattle.std.proofs.Common.{◌≡◌, ◌+◌, length, take}
use Rattle.rewriting.specs.Prelude.{variable_occurrences_of, size}
use Rattle.term_core.specs.View.{view, views}
use Rattle.automaton_runs.specs.Linear.{linear_all}
use Rattle.automaton_runs.proofs.linear.+put_numbers.Given as goal

abbrev pub decreases-put_numbers : goal.decreases-put_numbers
decreases-put_numbers l = size (view l.t.now)

abbrev pub invariant-loop-arg : goal.invariant-loop-arg
invariant-loop-arg l = record {
  next : l.next ≡ l.fn.next + length (variable_occurrences_of (views (take l.arg-index l.arg-items)));
  made : views l.made.items ≡ linear_all l.fn.next (views (take l.arg-index l.arg-items));
}
