use Rattle.unifier_run.proofs.General.{most_general, no_unifier, runs_settled, settled_fixed, settled_empty}
use Rattle.unifier_run.proofs.Unique.{runs_same}
use Rattle.unifier_run.proofs.Maps.{values_of-as_map}
use Rattle.unifier_run.proofs.laws_of_runs.Goals as goal

pub returns-clause-unique : goal.returns-clause-unique
returns-clause-unique c = λ ts us o p h k. runs_same h k

pub returns-clause-most_general : goal.returns-clause-most_general
returns-clause-most_general c = most_general

pub returns-clause-idempotent : goal.returns-clause-idempotent
returns-clause-idempotent c = λ ts us m r t. settled_fixed m (runs_settled r settled_empty) t

pub returns-clause-clash : goal.returns-clause-clash
returns-clause-clash c = no_unifier

pub returns-clause-values : goal.returns-clause-values
returns-clause-values c = values_of-as_map
