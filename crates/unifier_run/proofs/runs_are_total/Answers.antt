use Rattle.unifier_run.proofs.Total.{outcome_exists, first_trial, overlaps_total}
use Rattle.unifier_run.proofs.runs_are_total.Goals as goal

pub returns-clause-runs : goal.returns-clause-runs
returns-clause-runs c = outcome_exists

pub returns-clause-terms : goal.returns-clause-terms
returns-clause-terms c = first_trial

pub returns-clause-overlaps : goal.returns-clause-overlaps
returns-clause-overlaps c = overlaps_total
