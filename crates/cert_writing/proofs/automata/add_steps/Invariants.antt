use Rattle.cert_writing.proofs.Prelude.{◌≡◌, ◌++◌, map, drop, simp_view, used_by_steps, seen}
use Rattle.cert_writing.proofs.automata.add_steps.Given as goal

abbrev pub invariant-steps : goal.invariant-steps
invariant-steps l = seen l.automata.items ++ used_by_steps (map simp_view (drop l.step-index l.steps)) ≡ seen l.fn.automata.items ++ used_by_steps (map simp_view l.steps)
