use Rattle.cert_reading.proofs.Prelude.{◌≡◌, ◌-◌, None, map, length, transition_view, transitions_marks, Reads, AreWithoutStates}
use Rattle.cert_grammar.specs.Items as spec
use Rattle.cert_reading.proofs.automata.transitions.Given as goal

abbrev pub invariant-transitions : goal.invariant-transitions
invariant-transitions l = record {
  read : Reads l.fn.names l.fn.end (spec.transitions_of l.fn.states l.fn.count) (λ u. transitions_marks u l.fn.states (map transition_view l.transitions.items))
      (spec.transitions_of l.fn.states (l.fn.count - l.counter)) l.fn.at l.at;
  counted : l.at.refused ≡ None → length (map transition_view l.transitions.items) ≡ l.counter;
  plain : l.at.refused ≡ None → AreWithoutStates (map transition_view l.transitions.items);
}
