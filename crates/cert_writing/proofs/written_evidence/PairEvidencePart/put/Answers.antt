use Rattle.cert_writing.proofs.written_evidence.PairEvidencePart.put.Goals as goal

pub returns-in-Unfeasible : goal.returns-in-Unfeasible
returns-in-Unfeasible g c = rw c.in-Unfeasible.is c.put-in-Unfeasible.ensures
