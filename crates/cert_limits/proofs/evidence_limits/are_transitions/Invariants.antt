use Rattle.cert_limits.proofs.Prelude.{drop, map, ◌↔◌, transition_view, AreTransitions}
use Rattle.cert_limits.proofs.evidence_limits.are_transitions.Given as goal

abbrev pub invariant-transitions : goal.invariant-transitions
invariant-transitions l = AreTransitions l.names l.states (map transition_view l.transitions) ↔ AreTransitions l.names l.states (map transition_view (drop l.transition-index l.transitions))
