use Rattle.search_cases.proofs.replayed.are_replayed.Given as goal

abbrev pub invariant-ds : goal.invariant-ds
invariant-ds l = Unit {0}
