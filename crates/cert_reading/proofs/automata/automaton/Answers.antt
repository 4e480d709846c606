use Rattle.cert_reading.proofs.Prelude.{refl, then_reads}
use Rattle.cert_reading.proofs.automata.automaton.Goals as goal

pub returns-clause-read : goal.returns-clause-read
returns-clause-read c = then_reads (c.begins.ensures.read c.args.names.now _ _ refl) c.behind_word.ensures.read
