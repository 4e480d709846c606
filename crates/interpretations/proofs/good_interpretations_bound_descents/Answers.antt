use Rattle.interpretations.proofs.Bound.{bound}
use Rattle.interpretations.proofs.good_interpretations_bound_descents.Goals as goal

pub returns : goal.returns
returns c = record { bound = bound }
