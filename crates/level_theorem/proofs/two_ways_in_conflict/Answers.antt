use Rattle.level_theorem.specs.Example.{either_way}
use Rattle.level_theorem.proofs.Example.{almost_orthogonal}
use Rattle.level_theorem.proofs.two_ways_in_conflict.Goals as goal

pub returns-clause-almost_orthogonal : goal.returns-clause-almost_orthogonal
returns-clause-almost_orthogonal c = almost_orthogonal

pub returns-clause-confluent : goal.returns-clause-confluent
returns-clause-confluent c = c.levels_commute.ensures.confluent either_way almost_orthogonal
