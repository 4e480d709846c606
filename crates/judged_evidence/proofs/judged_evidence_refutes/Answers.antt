use Rattle.judged_evidence.proofs.Judged.{judged_infeasible}
use Rattle.judged_evidence.proofs.judged_evidence_refutes.Goals as goal

pub returns : goal.returns
returns c = judged_infeasible
