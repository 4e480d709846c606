use Rattle.std.proofs.Common.{take, map}
use Rattle.cert_model.specs.EvidenceView.{transition_view}
use Rattle.automaton_runs.specs.Counted.{symbols_of}
use Rattle.automaton_runs.specs.Twins.{AreKnown}
use Rattle.automaton_runs.proofs.index.known_transitions.Given as goal

abbrev pub invariant-loop-transition : goal.invariant-loop-transition
invariant-loop-transition l = AreKnown (symbols_of l.arities) l.automaton.states (map transition_view (take l.transition-index l.transition-items)) l.known
