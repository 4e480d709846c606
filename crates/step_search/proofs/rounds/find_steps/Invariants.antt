use Rattle.step_search.proofs.Onward.{GoesOn}
use Rattle.step_search.proofs.rounds.find_steps.Given as goal

abbrev pub invariant-rounds : goal.invariant-rounds
invariant-rounds l = GoesOn l.sys l.steps.items l.current l.fn.budget l.budget

-- each round but the last spends a unit
abbrev pub decreases-rounds : goal.decreases-rounds
decreases-rounds l = l.budget.left
