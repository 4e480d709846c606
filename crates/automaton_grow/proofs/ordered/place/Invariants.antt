use Rattle.std.proofs.Common.{◌-◌, ◌≤◌, map, length, take, drop}
use Rattle.rewriting.specs.Lists.{IsBeforeAll}
use Rattle.cert_model.specs.EvidenceView.{transition_view}
use Rattle.automaton_grow.specs.Placing.{AreBefore, transition_of}
use Rattle.automata.specs.Growth.{IsTransitionBefore}
use Rattle.automaton_grow.proofs.ordered.place.Given as goal

abbrev pub invariant-halves : goal.invariant-halves
invariant-halves l = record {
  in_order : l.low ≤ l.high;
  within : l.high ≤ length l.transitions;
  before : AreBefore (take l.low (map transition_view l.transitions)) (transition_of l.symbol l.args l.target);
  behind : IsBeforeAll IsTransitionBefore (transition_of l.symbol l.args l.target) (drop l.high (map transition_view l.transitions));
}

abbrev pub decreases-halves : goal.decreases-halves
decreases-halves l = l.high - l.low
