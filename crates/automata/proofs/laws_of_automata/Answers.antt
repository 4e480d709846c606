use Rattle.automata.proofs.Kept.{reduct_kept, from_0, refutes}
use Rattle.automata.proofs.Over.{runs_same}
use Rattle.automata.proofs.laws_of_automata.Goals as goal

pub returns-clause-kept : goal.returns-clause-kept
returns-clause-kept c = λ sys a t u q any closed h p. reduct_kept sys a any closed q p h

pub returns-clause-from_0 : goal.returns-clause-from_0
returns-clause-from_0 c = from_0

pub returns-clause-over : goal.returns-clause-over
returns-clause-over c = runs_same

pub returns-clause-refute : goal.returns-clause-refute
returns-clause-refute c = λ sys cs k a h. refutes sys cs k a h
