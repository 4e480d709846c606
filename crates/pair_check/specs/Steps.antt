-- What the steps of a run over entries answer.
use Rattle.std.specs.Prelude.{ℕ, ◌≡◌, ◌≢◌, ◌⊎◌, ◌+◌, List, Option, None, Some, Result, Ok, Err}
use Rattle.rewriting.specs.Rules.{System}
use Rattle.unifier_run.specs.Overlaps as math
use Rattle.unifier_run.specs.Overlaps.{triple, IsOverlapOf}
use Rattle.certificates.specs.Prelude.{PairEntry, EvidenceReason, Rejection, pair_large, too_many_pairs, pair_missing, pair_extra, evidence_fails}
use Rattle.term_core.specs.declared.terms.NoMemory.{NoMemory as Wanting}
use Rattle.cert_model.specs.ReasonView.{rejected_view}
use Rattle.cert_model.specs.declared.reasons.Rejected as reasons
use Rattle.critical_pairs.specs.Answers.{OverlapsAnswers}
use Rattle.critical_pairs.specs.Offers.{Search, OfferAnswers, DoesStay}
use Rattle.critical_pairs.specs.View.{overlap_view}
use Rattle.critical_pairs.specs.declared.Overlap.{Overlap}
use Rattle.critical_pairs.specs.declared.OverlapError.{OverlapError}
use Rattle.critical_pairs.specs.declared.OverlapError.TheVariants.{PairTooLarge, TooManyPairs, NoMemory as no_memory}
use Rattle.valid_certificates.specs.Kinds.{Kind}
use Rattle.valid_certificates.specs.Entries.{triple_of}
use Rattle.valid_certificates.specs.PairEvidence.{IsPairJudged}
use Rattle.validity.specs.declared.CheckError.{CheckError}
use Rattle.validity.specs.declared.CheckError.TheVariants.{Rejected, NoMemory}
use Rattle.pair_check.specs.Underway.{AreAll, IsUnderway}

-- the overlaps of the system have a list, or the first refusal
abbrev pub WalkAnswers : System → Result (Unit {0}) OverlapError → Type 0
WalkAnswers sys (Ok _) = (os : List math.Overlap) × AreAll sys os
WalkAnswers sys (Err e) = OverlapsAnswers sys (Err e)

-- the rejection that tells why the overlaps have no list
abbrev pub RefusedAnswers : OverlapError → CheckError → Type 0
RefusedAnswers (PairTooLarge i p j) (Rejected reason) = rejected_view reason ≡ pair_large i p.items j
RefusedAnswers TooManyPairs (Rejected reason) = rejected_view reason ≡ too_many_pairs
RefusedAnswers no_memory (Rejected reason) = ⊥
RefusedAnswers e NoMemory = e ≡ no_memory

-- a search of a system whose overlaps have a list
abbrev pub HasList : Search → Type 0
HasList s = (sys : System) × (offered : List math.Overlap) × (later : List math.Overlap) × IsUnderway sys s offered later

-- the next overlap, or none; where memory is refused, the search stays
abbrev pub NextAnswers : Search → Search → Result (Option Overlap) Wanting → Type 0
NextAnswers before after (Ok o) = OfferAnswers before after (Ok o)
NextAnswers before after (Err e) = DoesStay before after

-- the next overlap, if there is one, is an overlap of the system
abbrev pub IsNextOf : System → Option Overlap → Type 0
IsNextOf sys None = Unit {0}
IsNextOf sys (Some o) = IsOverlapOf sys (overlap_view o)

-- an entry settles the next overlap
abbrev pub DoesSettleNext : Kind → System → Option Overlap → PairEntry → Type 0
DoesSettleNext kind sys None e = ⊥
DoesSettleNext kind sys (Some o) e = (triple_of e ≡ triple (overlap_view o)) × IsPairJudged kind sys (overlap_view o) e.evidence None

-- why it does not, where n entries are before it
abbrev pub DoesFailNext : Kind → System → ℕ → Option Overlap → PairEntry → Rejection → Type 0
DoesFailNext kind sys n None e reason = reason ≡ pair_extra (n + 1)
DoesFailNext kind sys n (Some o) e reason =
    ((triple_of e ≢ triple (overlap_view o)) × (reason ≡ pair_missing o.inner o.pos.items o.outer))
    ⊎ ((triple_of e ≡ triple (overlap_view o)) × ((why : EvidenceReason) × IsPairJudged kind sys (overlap_view o) e.evidence (Some why) × (reason ≡ evidence_fails (n + 1) why)))

-- what a run answers to an entry with n others before it
abbrev pub EntryAnswers : Kind → System → ℕ → Option Overlap → PairEntry → Result (Option reasons.Rejected) Wanting → Type 0
EntryAnswers kind sys n next e (Ok None) = DoesSettleNext kind sys next e
EntryAnswers kind sys n next e (Ok (Some reason)) = DoesFailNext kind sys n next e (rejected_view reason)
EntryAnswers kind sys n next e (Err _) = Unit {0}
