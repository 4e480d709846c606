use Rattle.std.proofs.Common.{◌≤◌, map, length}
use Rattle.cert_model.specs.EvidenceView.{transition_view}
use Rattle.automaton_grow.specs.Growing.{IsAdded}
use Rattle.automaton_grow.specs.Rounds.{IsForSymbol}
use Rattle.automaton_grow.proofs.rounds.add_basic.Given as goal

abbrev pub invariant-loop-f : goal.invariant-loop-f
invariant-loop-f l = IsAdded (IsForSymbol l.arities l.f) (map transition_view l.fn.transitions.items) (map transition_view l.transitions.items)
    × (length (map transition_view l.transitions.items) ≤ 5000)
