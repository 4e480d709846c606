use Rattle.quasi_space.proofs.Joins.{joins_shared}
use Rattle.quasi_space.proofs.joins_are_shared_terms.Goals as goal

pub returns : goal.returns
returns c = record { joins = joins_shared }
