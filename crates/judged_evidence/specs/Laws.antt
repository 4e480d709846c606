-- What judged evidence shows, and that it has one judgement.
use Rattle.std.specs.Prelude.{◌≡◌, List, Option, None}
use Rattle.rewriting.specs.Prelude.{Condition, System, IsInfeasible}
use Rattle.certificates.specs.Prelude.{InfeasibilityEvidence, EvidenceReason}
use Rattle.judged_evidence.specs.Evidence.{IsInfeasibilityJudged}

-- conditions for which there is valid evidence are never met
abbrev pub JudgedEvidenceRefutes : Type 0
JudgedEvidenceRefutes = (sys : System) (cs : List Condition) (e : InfeasibilityEvidence) → IsInfeasibilityJudged sys cs e None → IsInfeasible sys cs

-- evidence has a judgement, and one alone
abbrev pub EvidenceHasAJudgement : Type 0
EvidenceHasAJudgement = (sys : System) (cs : List Condition) (e : InfeasibilityEvidence) → (o : Option EvidenceReason) × IsInfeasibilityJudged sys cs e o

abbrev pub EvidenceHasOneJudgement : Type 0
EvidenceHasOneJudgement =
    (sys : System) (cs : List Condition) (e : InfeasibilityEvidence) (o p : Option EvidenceReason) → IsInfeasibilityJudged sys cs e o
    → IsInfeasibilityJudged sys cs e p → o ≡ p
