use Rattle.std.proofs.Common.{◌≡◌, ◌+◌, ◌≤◌, drop}
use Rattle.rewriting.specs.Terms.{size, size_all}
use Rattle.automata.specs.Growth as growth
use Rattle.term_core.specs.View.{view, views}
use Rattle.automaton_grow.proofs.sides.+inner.Given as goal

abbrev pub invariant-loop-arg : goal.invariant-loop-arg
invariant-loop-arg l = record {
  counted : l.count + growth.inner_in (views (drop l.arg-index l.arg-items)) ≡ growth.inner (view l.fn.t);
  room : size_all (views (drop l.arg-index l.arg-items)) ≤ size (view l.fn.t);
}
