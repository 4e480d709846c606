use Rattle.quasi_check.proofs.Sound.{measured_confluent}
use Rattle.quasi_check.proofs.quasi.valid_measured_systems_are_confluent.Goals as goal

pub returns : goal.returns
returns c = measured_confluent c.bounded_descents_are_confluent.ensures.confluent
