use Rattle.tallies.proofs.SomeTally.{ortho_one_tally, quasi_one_tally}
use Rattle.tallies.proofs.entries_have_one_tally.Goals as goal

pub returns-clause-ortho : goal.returns-clause-ortho
returns-clause-ortho c = ortho_one_tally

pub returns-clause-quasi : goal.returns-clause-quasi
returns-clause-quasi c = quasi_one_tally
