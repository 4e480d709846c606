use Rattle.level_theorem.specs.Example.{fibonacci_numbers}
use Rattle.level_theorem.proofs.Fibonacci.{almost_orthogonal}
use Rattle.level_theorem.proofs.variables_found_by_a_condition.Goals as goal

pub returns-clause-almost_orthogonal : goal.returns-clause-almost_orthogonal
returns-clause-almost_orthogonal c = almost_orthogonal

pub returns-clause-confluent : goal.returns-clause-confluent
returns-clause-confluent c = c.levels_commute.ensures.confluent fibonacci_numbers almost_orthogonal
