use Rattle.cert_limits.proofs.Prelude.{drop, ◌↔◌, AreStates}
use Rattle.cert_limits.proofs.evidence_limits.are_states.Given as goal

abbrev pub invariant-numbers : goal.invariant-numbers
invariant-numbers l = AreStates l.states l.numbers ↔ AreStates l.states (drop l.number-index l.numbers)
