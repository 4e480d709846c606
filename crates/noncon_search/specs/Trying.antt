-- The first valid evidence of what is tried for conditions.
use Rattle.std.specs.Prelude.{ℕ, List, Option, None, Some, Result, Ok, Err}
use Rattle.rewriting.specs.Rules.{Condition, System}
use Rattle.certificates.specs.Evidence.{InfeasibilityEvidence}
use Rattle.term_core.specs.declared.terms.NoMemory.{NoMemory}
use Rattle.cert_model.specs.EvidenceView.{inf_evidence_view}
use Rattle.cert_model.specs.declared.evidence.InfEvidence.{InfEvidence}
use Rattle.redex_conditions.specs.Judged.{AreJudged}
use Rattle.first_found.specs.Items.{GivesNothing, NoneGives, IsFirst, one}
use Rattle.search_spaces.specs.Refuting.{Refuting, Tries}

-- the evidence that is tried for conditions is valid
abbrev pub Refutes : System → List Condition → Refuting → InfeasibilityEvidence → Type 0
Refutes sys cs item e = Tries sys cs item e × AreJudged sys cs e None

-- the evidence of one item, or it gives none
abbrev pub ItemAnswers : System → List Condition → Refuting → Result (Option InfEvidence) NoMemory → Type 0
ItemAnswers sys cs item (Ok (Some e)) = Refutes sys cs item (inf_evidence_view e)
ItemAnswers sys cs item (Ok None) = GivesNothing (Refutes sys cs) item
ItemAnswers sys cs item (Err e) = Unit {0}

-- the evidence of the first item that gives some, or none does
abbrev pub FirstAnswers : System → List Condition → List Refuting → Result (Option InfEvidence) NoMemory → Type 0
FirstAnswers sys cs items (Ok (Some e)) = (n : ℕ) × IsFirst one (Refutes sys cs) items (inf_evidence_view e) n
FirstAnswers sys cs items (Ok None) = NoneGives (Refutes sys cs) items
FirstAnswers sys cs items (Err e) = Unit {0}
