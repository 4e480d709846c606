use Rattle.cert_writing.proofs.Prelude.{sym, ◌∙◌, length-map, transition_view, transitions_each}
use Rattle.cert_writing.proofs.written_evidence.AutomatonPart.put.Goals as goal

pub returns : goal.returns
returns g c =
    let transitions = c.args.self.now.transitions in
    let many = length-map transitions.items transition_view ∙ sym (c.len.ensures ∙ transitions.ok.0) in
    rw (← c.deref.ensures.value, many, transitions_each) c.put.ensures
