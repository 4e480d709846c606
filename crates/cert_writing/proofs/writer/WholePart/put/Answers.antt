use Rattle.cert_writing.proofs.Prelude.{certificate_view, whole_text}
use Rattle.cert_writing.proofs.writer.WholePart.put.Goals as goal

pub returns-in-Ok : goal.returns-in-Ok
returns-in-Ok g c =
    let p = g.met.O.Output.parts in
    rw (whole_text c.args.names.now (certificate_view c.args.self.now.1.now) _ c.in-Ok.ensures)
    (p _ _ _ _ _ (p _ _ _ _ _ (rw c.len.ensures at c.put.ensures) (p _ _ _ _ _ c.put-in-Ok.ensures c.put_texts.ensures))
    (p _ _ _ _ _ c.put_body.ensures c.put-in-Ok-2.ensures))
