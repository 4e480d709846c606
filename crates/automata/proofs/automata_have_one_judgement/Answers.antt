use Rattle.automata.proofs.Unique.{judgement_same}
use Rattle.automata.proofs.Total.{automaton_total}
use Rattle.automata.proofs.automata_have_one_judgement.Goals as goal

pub returns-clause-some : goal.returns-clause-some
returns-clause-some c = automaton_total

pub returns-clause-one : goal.returns-clause-one
returns-clause-one c = judgement_same
