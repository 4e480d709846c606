-- What the search for an answer, and its parts, answer.
use Rattle.std.specs.Prelude.{ℕ, ◌≡◌, ◌≤◌, List, map, Option, None, Some, Result, Ok, Err}
use Rattle.rewriting.specs.Rules.{Condition, System}
use Rattle.term_core.specs.View.{view}
use Rattle.term_core.specs.declared.terms.NoMemory.{NoMemory}
use Rattle.cert_model.specs.DerivationView.{derivation_view}
use Rattle.cert_model.specs.EvidenceView.{inf_evidence_view}
use Rattle.cert_model.specs.declared.evidence.InfEvidence.{InfEvidence}
use Rattle.cc_count.specs.Counts.{Counts, Spends}
use Rattle.first_found.specs.Items.{GivesNothing}
use Rattle.first_found.specs.Spaces.{Ending, found, nothing, spent}
use Rattle.search_spaces.specs.Refuting.{Refuting}
use Rattle.search_answers.specs.Walks.{Walks}
use Rattle.reach_lists.specs.Solutions.{Solution}
use Rattle.query_space.specs.Items.{QueryAnswer, never_met, met_by, QueryItem, query_item_cost, answer_of, Refutes, GivesAnswer, IsGoodAnswer}
use Rattle.query_space.specs.Space.{query_space, IsHeld, IsQueryPrice}
use Rattle.query_space.specs.Endings.{MayEndQuery}
use Rattle.query_space.specs.Laws.{SaysTrue}
use Rattle.query_search.specs.declared.reply.Reply.{Reply}
use Rattle.query_search.specs.declared.reply.Reply.TheVariants.{Infeasible, Meets, Exhausted, Spent}

-- a reply as what a search ends with
abbrev pub reply_view : Reply → Ending QueryAnswer
reply_view (Infeasible e) = found (never_met (inf_evidence_view e))
reply_view (Meets ts ds) = found (met_by (map view ts.items) (map derivation_view ds.items))
reply_view Exhausted = nothing
reply_view Spent = spent

-- the evidence of an item, where it is valid; or it gives none
abbrev pub EvidenceAnswers : System → List Condition → Refuting → Result (Option InfEvidence) NoMemory → Type 0
EvidenceAnswers sys cs r (Ok (Some e)) = Refutes sys cs r (inf_evidence_view e)
EvidenceAnswers sys cs r (Ok None) = GivesNothing (Refutes sys cs) r
EvidenceAnswers sys cs r (Err e) = Unit {0}

-- what a full substitution carries, or there is none
abbrev pub FirstAnswers : List Condition → Option Solution → Result Reply NoMemory → Type 0
FirstAnswers cs None (Ok r) = reply_view r ≡ nothing
FirstAnswers cs (Some s) (Ok r) = reply_view r ≡ found (answer_of cs s)
FirstAnswers cs o (Err e) = Unit {0}

-- what the first item gives that gives anything, at the cost that was paid; that none does, at the cost of all; or that the budget ended
abbrev pub WalkAnswers : System → List Condition → List QueryItem → Counts → Counts → Result Reply NoMemory → Type 0
WalkAnswers sys cs = Walks reply_view (query_item_cost sys cs) (GivesAnswer sys cs)

-- a search of the space, by what it paid
abbrev pub SearchAnswers : System → List Condition → Counts → Counts → Result Reply NoMemory → Type 0
SearchAnswers sys cs before after (Ok r) = (n : ℕ) × Spends before n after × MayEndQuery sys cs before.left n (reply_view r)
SearchAnswers sys cs before after (Err e) = (n : ℕ) × Spends before n after

-- what is found is true
abbrev pub IsTrueEnding : System → List Condition → Ending QueryAnswer → Type 0
IsTrueEnding sys cs (found a) = SaysTrue sys cs a
IsTrueEnding sys cs nothing = Unit {0}
IsTrueEnding sys cs spent = Unit {0}

abbrev pub IsTrueReply : System → List Condition → Result Reply NoMemory → Type 0
IsTrueReply sys cs (Ok r) = IsTrueEnding sys cs (reply_view r)
IsTrueReply sys cs (Err e) = Unit {0}

-- where nothing is found, nothing in the space answers
abbrev pub IsEmptyEnding : System → List Condition → Ending QueryAnswer → Type 0
IsEmptyEnding sys cs (found a) = Unit {0}
IsEmptyEnding sys cs nothing = (a : QueryAnswer) → (query_space sys cs).Holds a → IsGoodAnswer sys cs a → ⊥
IsEmptyEnding sys cs spent = Unit {0}

abbrev pub IsEmptyReply : System → List Condition → Result Reply NoMemory → Type 0
IsEmptyReply sys cs (Ok r) = IsEmptyEnding sys cs (reply_view r)
IsEmptyReply sys cs (Err e) = Unit {0}

-- an answer, or want of memory
abbrev pub IsAnswer : Result Reply NoMemory → Type 0
IsAnswer (Ok (Infeasible e)) = Unit {0}
IsAnswer (Ok (Meets ts ds)) = Unit {0}
IsAnswer (Ok Exhausted) = ⊥
IsAnswer (Ok Spent) = ⊥
IsAnswer (Err e) = Unit {0}

-- the space holds a good answer, and its price is within so many units
pub record HasAnswerWithin (sys : System) (cs : List Condition) (left : ℕ) : Type 0 where
  pub answer : QueryAnswer
  pub held : IsHeld sys cs answer
  pub good : IsGoodAnswer sys cs answer
  pub price : ℕ
  pub is_price : IsQueryPrice sys cs price
  pub within : price ≤ left
