use Rattle.std.proofs.Common.{◌≡◌, ℕ, ◌<◌, map}
use Rattle.std.specs.Prelude.{slice_get}
use Rattle.cert_model.specs.EvidenceView.{transition_view}
use Rattle.infeasible.proofs.same.are_same_transitions.Given as goal

abbrev pub invariant-transitions : goal.invariant-transitions
invariant-transitions l = (k : ℕ) → k < l.i → slice_get (map transition_view l.first) k ≡ slice_get (map transition_view l.second) k
