use Rattle.judged_evidence.proofs.Judged.{infeasibility_total, evidence_once}
use Rattle.judged_evidence.proofs.evidence_has_one_judgement.Goals as goal

pub returns-clause-some : goal.returns-clause-some
returns-clause-some c = infeasibility_total

pub returns-clause-one : goal.returns-clause-one
returns-clause-one c = evidence_once
