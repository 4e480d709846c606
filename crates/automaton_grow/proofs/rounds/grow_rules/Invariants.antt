use Rattle.std.proofs.Common.{◌≡◌, ◌≤◌, map, length}
use Rattle.term_core.specs.View.{view}
use Rattle.cert_model.specs.EvidenceView.{transition_view}
use Rattle.automata.specs.Growth.{first_state}
use Rattle.automaton_grow.specs.Growing.{IsAdded, IsAskedBelow}
use Rattle.automaton_grow.proofs.rounds.grow_rules.Given as goal

abbrev pub invariant-loop-rule : goal.invariant-loop-rule
invariant-loop-rule l = record {
  first : l.first ≡ first_state l.sys (view l.s) l.rule-index;
  added : IsAdded (IsAskedBelow l.sys (view l.s) l.rule-index (map transition_view l.current.transitions.items)) (map transition_view l.fn.next.items)
      (map transition_view l.next.items) × (length (map transition_view l.next.items) ≤ 5000);
}
