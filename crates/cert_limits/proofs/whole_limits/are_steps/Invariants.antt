use Rattle.cert_limits.proofs.Prelude.{drop, map, ◌↔◌, simp_view, AreSimplifications}
use Rattle.cert_limits.proofs.whole_limits.are_steps.Given as goal

abbrev pub invariant-steps : goal.invariant-steps
invariant-steps l = AreSimplifications l.names (map simp_view l.steps) ↔ AreSimplifications l.names (map simp_view (drop l.step-index l.steps))
