use Rattle.cert_writing.proofs.Prelude.{counted_all}
use Rattle.cert_writing.proofs.parts.count.Goals as goal

pub returns : goal.returns
returns g c = counted_all _ _ _ c.put.ensures c.if-counter.false
