use Rattle.cert_limits.proofs.Prelude.{drop, map, ◌↔◌, derivation_of, derivations_of, derivation_view, step_view, AreSteps, AreDerivations}
use Rattle.cert_limits.proofs.step_limits.+is_derivation.Given as goal

abbrev pub invariant-are_steps-each : goal.invariant-are_steps-each
invariant-are_steps-each l = AreSteps l.levels (derivation_of (map step_view l.steps)) ↔ AreSteps l.levels (derivation_of (map step_view (drop l.step-index l.steps)))

abbrev pub invariant-are_derivations-derivations : goal.invariant-are_derivations-derivations
invariant-are_derivations-derivations l = AreDerivations l.levels (derivations_of (map derivation_view l.conds)) ↔ AreDerivations l.levels
    (derivations_of (map derivation_view (drop l.cond-index l.conds)))
