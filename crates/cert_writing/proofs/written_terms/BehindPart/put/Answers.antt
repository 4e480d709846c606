use Rattle.cert_writing.proofs.Prelude.{refl, next_value}
use Rattle.cert_writing.proofs.written_terms.BehindPart.put.Goals as goal

pub numbers-preserved : goal.numbers-preserved
numbers-preserved g c = next_value g.met.O.Output.parts 0 c.numbers-test.true c.numbers.invariant (g.met.O.Output.parts _ _ _ _ _ c.put.ensures c.put-in-numbers.ensures) refl
