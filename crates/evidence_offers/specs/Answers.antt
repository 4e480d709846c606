-- What an offer of evidence answers.
use Rattle.std.specs.Prelude.{List, Option, None, Some, Result, Ok, Err}
use Rattle.rewriting.specs.Rules.{Condition, System}
use Rattle.certificates.specs.Evidence.{InfeasibilityEvidence}
use Rattle.term_core.specs.declared.terms.NoMemory.{NoMemory}
use Rattle.cert_model.specs.EvidenceView.{inf_evidence_view}
use Rattle.cert_model.specs.declared.evidence.InfEvidence.{InfEvidence}
use Rattle.search_spaces.specs.Refuting.{Refuting, Tries}

-- the evidence that is tried, or there is none
abbrev pub OfferAnswers : System → List Condition → Refuting → Result (Option InfEvidence) NoMemory → Type 0
OfferAnswers sys cs r (Ok (Some e)) = Tries sys cs r (inf_evidence_view e)
OfferAnswers sys cs r (Ok None) = (e : InfeasibilityEvidence) → Tries sys cs r e → ⊥
OfferAnswers sys cs r (Err e) = Unit {0}
