use Rattle.rewriting.proofs.Firsts.{variables_are_listed}
use Rattle.rewriting.proofs.laws_of_variables.Goals as goal

pub returns : goal.returns
returns c = variables_are_listed
