use Rattle.cert_reading.proofs.Prelude.{[], ◌∷◌, length, NameTable, accepting_marks, Reads}
use Rattle.cert_grammar.specs.Items as spec
use Rattle.cert_reading.proofs.automata.accepting.Given as goal

abbrev pub invariant-states : goal.invariant-states
invariant-states l = (names : NameTable) → Reads names l.fn.end (spec.accepting l.fn.states ∷ []) (λ u. accepting_marks l.fn.states l.accepted.items) (spec.accepting l.fn.states ∷ []) l.fn.at l.at

abbrev pub decreases-states : goal.decreases-states
decreases-states l = length l.at.left.now
