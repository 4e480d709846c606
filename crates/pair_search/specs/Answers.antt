-- What walks through the items of an overlap answer, and walks over all overlaps.
use Rattle.std.specs.Prelude.{ℕ, ◌≡◌, List, map, Option, None, Some, Result, Ok, Err, Vec}
use Rattle.std.specs.Global.{Global}
use Rattle.rewriting.specs.Rules.{System}
use Rattle.unifier_run.specs.Overlaps.{Overlap}
use Rattle.certificates.specs.Evidence as math
use Rattle.certificates.specs.Certificates as certificates
use Rattle.valid_certificates.specs.Kinds.{Kind}
use Rattle.valid_certificates.specs.PairEvidence.{IsPairJudged}
use Rattle.term_core.specs.declared.terms.NoMemory.{NoMemory}
use Rattle.cert_model.specs.EvidenceView.{pair_evidence_view}
use Rattle.cert_model.specs.CertificateView.{pair_entry_view}
use Rattle.cert_model.specs.declared.evidence.PairEvidence.{PairEvidence}
use Rattle.cert_model.specs.declared.model.PairEntry.{PairEntry}
use Rattle.cc_count.specs.Counts.{Counts}
use Rattle.cc_count.specs.Sought.{Seeks}
use Rattle.cc_count.specs.declared.Sought.{Sought}
use Rattle.first_found.specs.Items.{GivesNothing, NoneGives, cost_of, IsFirst, IsStopped}
use Rattle.first_found.specs.Rows.{AreFirsts, EndsAtRow, StopsInRow}
use Rattle.search_spaces.specs.PairItems.{PairItem, GivesEvidence}
use Rattle.search_spaces.specs.Entries.{entry_for}
use Rattle.search_answers.specs.Walks.{sought_ending, EndsWith}

-- the evidence, where it is valid in a certificate of the kind
abbrev pub JudgedAnswers : Kind → System → Overlap → math.PairEvidence → Result (Option PairEvidence) NoMemory → Type 0
JudgedAnswers kind sys o given (Ok (Some e)) = (pair_evidence_view e ≡ given) × IsPairJudged kind sys o given None
JudgedAnswers kind sys o given (Ok None) = IsPairJudged kind sys o given None → ⊥
JudgedAnswers kind sys o given (Err e) = Unit {0}

-- what the item gives, or that it gives nothing
abbrev pub ItemAnswers : Kind → System → Overlap → PairItem → Result (Option PairEvidence) NoMemory → Type 0
ItemAnswers kind sys o item (Ok (Some e)) = GivesEvidence kind sys o item (pair_evidence_view e)
ItemAnswers kind sys o item (Ok None) = GivesNothing (GivesEvidence kind sys o) item
ItemAnswers kind sys o item (Err e) = Unit {0}

-- of an overlap: its first evidence, at the cost that was paid; that it lacks evidence, at the cost of the whole; or that the budget ended
abbrev pub OverlapAnswers : (math.PairEvidence → ℕ → Type 0) → Type 0 → ℕ → (ℕ → Type 0) → Counts → Counts → Result (Sought PairEvidence) NoMemory → Type 0
OverlapAnswers First Lacks whole Stops before after (Ok told) = EndsWith First Lacks whole Stops before after (sought_ending pair_evidence_view told)
OverlapAnswers First Lacks whole Stops before after (Err e) = Unit {0}

-- the same of items
abbrev pub WalkAnswers : {A : Type 0} → (A → ℕ) → (A → math.PairEvidence → Type 0) → List A → Counts → Counts → Result (Sought PairEvidence) NoMemory → Type 0
WalkAnswers cost Gives items = OverlapAnswers (IsFirst cost Gives items) (NoneGives Gives items) (cost_of cost items) (IsStopped cost Gives items)

-- the entry has the first evidence for the overlap, at this cost
abbrev pub HasFirst : (Overlap → math.PairEvidence → ℕ → Type 0) → Overlap → certificates.PairEntry → ℕ → Type 0
HasFirst First o entry n = (e : math.PairEvidence) × First o e n × (entry ≡ entry_for o e)

-- `First o entry n` says that an overlap has this entry at the cost n: an entry for each overlap, that an overlap has none, or that the budget ended
abbrev pub EntriesAnswers : (Overlap → certificates.PairEntry → ℕ → Type 0) → (Overlap → ℕ) → (Overlap → ℕ → Type 0) → List Overlap
    → Counts → Counts → Result (Sought (Vec PairEntry Global)) NoMemory → Type 0
EntriesAnswers First whole Stops os = Seeks (λ (es : Vec PairEntry Global) n. AreFirsts First os (map pair_entry_view es.items) n) (EndsAtRow First whole os) (StopsInRow First Stops os)
