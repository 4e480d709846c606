use Rattle.std.proofs.Common.{◌≡◌, ◌+◌, ◌<◌, ◌^◌, ◌++◌, drop}
use Rattle.rewriting.specs.Terms.{size_all}
use Rattle.automata.specs.Closed.{state_of}
use Rattle.automata.specs.Growth.{tops}
use Rattle.term_core.specs.View.{views}
use Rattle.automaton_grow.proofs.sides.tops.Given as goal

abbrev pub invariant-loop-arg : goal.invariant-loop-arg
invariant-loop-arg l = record {
  put : l.qs.items ++ tops (state_of l.values.leaves.now l.values.states.now) l.next (views (drop l.arg-index l.args)) ≡ tops (state_of l.values.leaves.now l.values.states.now) l.n (views l.args);
  room : l.next + size_all (views (drop l.arg-index l.args)) < 2 ^ 32;
}
