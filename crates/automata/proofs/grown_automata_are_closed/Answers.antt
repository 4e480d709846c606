use Rattle.automata.proofs.Grown.{grown_well}
use Rattle.automata.proofs.grown_automata_are_closed.Goals as goal

pub returns : goal.returns
returns c = grown_well
