-- Evidence that conditions are never met, whatever its kind.
use Rattle.certificates.specs.Evidence.{by_caps, by_automaton}
use Rattle.caps.proofs.Reducts.{never_met as caps_refute}
use Rattle.caps.proofs.Total.{caps_total}
use Rattle.caps.proofs.Unique.{one_judgement}
use Rattle.automata.proofs.Kept.{refutes as automaton_refutes}
use Rattle.automata.proofs.Total.{automaton_total}
use Rattle.automata.proofs.Unique.{judgement_same}
use Rattle.judged_evidence.specs.Laws.{JudgedEvidenceRefutes, EvidenceHasAJudgement, EvidenceHasOneJudgement}

pub judged_infeasible : JudgedEvidenceRefutes
judged_infeasible sys cs by_caps h = caps_refute sys cs h
judged_infeasible sys cs (by_automaton k a) h = automaton_refutes sys cs k a h

pub infeasibility_total : EvidenceHasAJudgement
infeasibility_total sys cs by_caps = caps_total sys cs
infeasibility_total sys cs (by_automaton k a) = automaton_total sys cs k a

pub evidence_once : EvidenceHasOneJudgement
evidence_once sys cs by_caps o p a b = one_judgement sys cs o p a b
evidence_once sys cs (by_automaton k x) o p a b = judgement_same sys cs k x o p a b
