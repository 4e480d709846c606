use Rattle.level_theorem.proofs.Counterexamples.{harmful_overlap, new_variable_at_right}
use Rattle.level_theorem.proofs.worked_counterexamples.Goals as goal

pub returns : goal.returns
returns c = record { overlaps = harmful_overlap; type3 = new_variable_at_right }
