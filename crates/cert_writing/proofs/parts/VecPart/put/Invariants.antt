use Rattle.cert_writing.proofs.Prelude.{uses_view, each, Left}
use Rattle.cert_writing.proofs.parts.VecPart.put.Given as goal

abbrev pub invariant-parts : goal.invariant-parts
invariant-parts g l = Left g.O.Output.took (each (g.T.Part.text l.names (uses_view l.names l.uses))) l.part-items l.part-index l.fn.to l.to
