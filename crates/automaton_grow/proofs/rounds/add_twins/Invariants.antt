use Rattle.std.proofs.Common.{◌≤◌, map, length, take}
use Rattle.std.specs.Prelude.{Contains}
use Rattle.cert_model.specs.EvidenceView.{transition_view}
use Rattle.automaton_grow.specs.Growing.{twins, IsAdded}
use Rattle.automaton_grow.proofs.rounds.add_twins.Given as goal

abbrev pub invariant-loop-one : goal.invariant-loop-one
invariant-loop-one l =
    IsAdded (Contains (twins l.from l.to (map transition_view (take l.one-index l.current)))) (map transition_view l.fn.next.items) (map transition_view l.next.items)
    × (length (map transition_view l.next.items) ≤ 5000)
