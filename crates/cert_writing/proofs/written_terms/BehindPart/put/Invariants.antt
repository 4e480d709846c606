use Rattle.cert_writing.proofs.Prelude.{each_behind, Left}
use Rattle.cert_writing.proofs.written_terms.BehindPart.put.Given as goal

abbrev pub invariant-numbers : goal.invariant-numbers
invariant-numbers g l = Left g.O.Output.took (each_behind l.self.0) l.number-items l.number-index l.fn.to l.to
