use Rattle.std.proofs.Common.{◌≡◌, ◌-◌, map, length}
use Rattle.term_core.specs.View.{view}
use Rattle.cert_model.specs.EvidenceView.{transition_view}
use Rattle.automaton_grow.specs.Growing.{IsPartial}
use Rattle.automaton_grow.proofs.grow_on.Given as goal

abbrev pub invariant-rounds : goal.invariant-rounds
invariant-rounds l = record {
  states : l.current.states ≡ l.fn.automaton.states;
  accepting : l.current.accepting.items ≡ l.fn.automaton.accepting.items;
  partial : IsPartial l.sys (view l.s) (map transition_view l.current.transitions.items);
}

abbrev pub decreases-rounds : goal.decreases-rounds
decreases-rounds l = 5001 - length l.current.transitions.items
