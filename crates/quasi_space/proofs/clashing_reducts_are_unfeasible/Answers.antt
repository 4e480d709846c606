use Rattle.quasi_space.proofs.Reducts.{reducts_unfeasible}
use Rattle.quasi_space.proofs.clashing_reducts_are_unfeasible.Goals as goal

pub returns : goal.returns
returns c = record { reducts = reducts_unfeasible }
