use Rattle.cert_writing.proofs.written_evidence.InfEvidencePart.put.Goals as goal

pub returns-in-Ok : goal.returns-in-Ok
returns-in-Ok g c = rw (c.in-Auto.is, c.in-ByNumber.is, ← c.in-Ok.ensures) c.put-in-Ok.ensures
