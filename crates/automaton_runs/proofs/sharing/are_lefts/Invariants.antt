use Rattle.automaton_runs.proofs.sharing.are_lefts.Given as goal

abbrev pub invariant-loop-place : goal.invariant-loop-place
invariant-loop-place l = Unit {0}
