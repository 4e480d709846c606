use Rattle.std.proofs.Common.{◌≤◌, map, length, take}
use Rattle.std.specs.Prelude.{Contains}
use Rattle.cert_model.specs.EvidenceView.{transition_view}
use Rattle.automaton_grow.specs.Growing.{IsAdded}
use Rattle.automaton_grow.proofs.ordered.add_all.Given as goal

abbrev pub invariant-loop-one : goal.invariant-loop-one
invariant-loop-one l =
    IsAdded (Contains (map transition_view (take l.one-index l.some))) (map transition_view l.fn.transitions.items) (map transition_view l.transitions.items)
    × (length (map transition_view l.transitions.items) ≤ 5000)
