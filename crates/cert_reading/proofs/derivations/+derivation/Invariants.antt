use Rattle.cert_reading.proofs.Prelude.{◌≡◌, ◌-◌, ◌+◌, ◌*◌, None, map, length, derivation_of, derivations_of, NameTable, derivation_view, step_view, steps_marks, derivations_marks, Reads}
use Rattle.cert_grammar.specs.Items as spec
use Rattle.cert_reading.proofs.derivations.+derivation.Given as goal

abbrev pub invariant-steps-steps : goal.invariant-steps-steps
invariant-steps-steps l = record {
  read : (names : NameTable) → Reads names l.fn.end (spec.steps_of l.fn.level l.fn.count) (λ u. steps_marks l.fn.level (derivation_of (map step_view l.steps.items)))
      (spec.steps_of l.fn.level (l.fn.count - l.counter)) l.fn.at l.at;
  counted : l.at.refused ≡ None → length l.steps.items ≡ l.counter;
}

abbrev pub invariant-derivations-derivations : goal.invariant-derivations-derivations
invariant-derivations-derivations l = record {
  read : (names : NameTable) → Reads names l.fn.end (spec.derivations l.fn.level l.fn.count)
      (λ u. derivations_marks l.fn.level (derivations_of (map derivation_view l.derivations.items))) (spec.derivations l.fn.level (l.fn.count - l.counter)) l.fn.at l.at;
  counted : l.at.refused ≡ None → length l.derivations.items ≡ l.counter;
}

abbrev pub decreases-derivation : goal.decreases-derivation
decreases-derivation l = 4 * (52 - l.level)

abbrev pub decreases-steps : goal.decreases-steps
decreases-steps l = 4 * (51 - l.level) + 3

abbrev pub decreases-step : goal.decreases-step
decreases-step l = 4 * (51 - l.level) + 2

abbrev pub decreases-derivations : goal.decreases-derivations
decreases-derivations l = 4 * (52 - l.level) + 1
