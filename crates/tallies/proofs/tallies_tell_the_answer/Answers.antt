use Rattle.tallies.proofs.Telling.{ortho_tells, quasi_tells}
use Rattle.tallies.proofs.tallies_tell_the_answer.Goals as goal

pub returns-clause-ortho : goal.returns-clause-ortho
returns-clause-ortho c = ortho_tells

pub returns-clause-quasi : goal.returns-clause-quasi
returns-clause-quasi c = quasi_tells
