use Rattle.cert_writing.proofs.Prelude.{sym, ◌∙◌, length-map, simplified_shown, simp_view, simplifications_each}
use Rattle.cert_writing.proofs.writer.+put_body.Goals as goal

pub returns-in-Simplified : goal.returns-in-Simplified
returns-in-Simplified g t c =
    let p = g.met.O.Output.parts in
    let steps = c.in-Simplified.steps in
    let many = length-map steps.items simp_view ∙ sym (c.len.ensures ∙ steps.ok.0) in
    rw (c.in-Simplified.is, simplified_shown, many, simplifications_each)
    (p _ _ _ _ _ c.put-in-Simplified.ensures (p _ _ _ _ _ c.put-in-Simplified-2.ensures (rw c.deref.ensures at c.put_body.ensures)))
