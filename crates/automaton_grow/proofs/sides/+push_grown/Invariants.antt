use Rattle.std.proofs.Common.{◌≡◌, ◌+◌, ◌<◌, ◌^◌, ◌++◌, map, drop}
use Rattle.rewriting.specs.Terms.{size_all}
use Rattle.automata.specs.Closed.{state_of}
use Rattle.automata.specs.Growth.{inside_all, grown}
use Rattle.term_core.specs.View.{view, views}
use Rattle.cert_model.specs.EvidenceView.{transition_view}
use Rattle.automaton_grow.proofs.sides.+push_grown.Given as goal

abbrev pub invariant-loop-arg : goal.invariant-loop-arg
invariant-loop-arg l = record {
  put : map transition_view l.out.items ++ inside_all (state_of l.values.leaves.now l.values.states.now) l.next (views (drop l.arg-index l.arg-items)) ≡ map transition_view l.fn.out.items
      ++ grown (state_of l.values.leaves.now l.values.states.now) l.n (view l.fn.t) l.q;
  room : l.next + 1 + size_all (views (drop l.arg-index l.arg-items)) < 2 ^ 32;
}
