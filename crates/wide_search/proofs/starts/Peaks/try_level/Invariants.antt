use Rattle.wide_search.proofs.starts.Peaks.try_level.Given as goal

abbrev pub decreases-instances : goal.decreases-instances
decreases-instances l = l.budget.left
