use Rattle.rewriting.specs.Examples.{equal_sides}
use Rattle.descent_theorem.proofs.Example.{bounded_and_settled}
use Rattle.descent_theorem.proofs.left_side_not_linear.Goals as goal

pub returns-clause-bounded_and_settled : goal.returns-clause-bounded_and_settled
returns-clause-bounded_and_settled c = bounded_and_settled

pub returns-clause-confluent : goal.returns-clause-confluent
returns-clause-confluent c = c.bounded_descents_are_confluent.ensures.confluent equal_sides bounded_and_settled
