use Rattle.cert_reading.proofs.Prelude.{[], ◌∷◌, length, NameTable, coefficients_marks, Reads}
use Rattle.cert_grammar.specs.Items as spec
use Rattle.cert_reading.proofs.measures.coefficients.Given as goal

abbrev pub invariant-numbers : goal.invariant-numbers
invariant-numbers l = (names : NameTable) → Reads names l.fn.end (spec.coefficients_behind 0 ∷ []) (λ u. coefficients_marks 1 l.coeffs.items)
    (spec.coefficients_behind (length l.coeffs.items) ∷ []) l.fn.at l.at

abbrev pub decreases-numbers : goal.decreases-numbers
decreases-numbers l = length l.at.left.now
