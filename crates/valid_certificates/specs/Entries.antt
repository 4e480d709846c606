-- The entries of a certificate: one for each overlap of the system, in order, with valid evidence.
use Rattle.std.specs.Prelude.{ℕ, suc, ◌≡◌, ◌≢◌, ◌⊎◌, List, [], ◌∷◌, None, Some}
use Rattle.rewriting.specs.Prelude.{Position, System}
use Rattle.unifier_run.specs.Overlaps.{Triple, Overlap, triple, AreOverlaps, IsPairTooLarge, AreTooManyOverlaps}
use Rattle.certificates.specs.Prelude.{PairEntry, PairEvidence, trivial_pair, infeasible_pair, conflicting_pair, joined_pair, unfeasible_pair, IsShort, EvidenceReason, Rejection}
use Rattle.certificates.specs.Prelude.{pair_large, too_many_pairs, pair_missing, pair_extra, evidence_fails}
use Rattle.valid_certificates.specs.Kinds.{Kind}
use Rattle.valid_certificates.specs.PairEvidence.{IsPairJudged}

-- the overlap that an entry is for
abbrev pub triple_of : PairEntry → Triple
triple_of e = (e.inner, (e.position, e.outer))

-- there is an entry for each of the overlaps, in order, with valid evidence, and no other entry
abbrev pub AreSettled : Kind → System → List Overlap → List PairEntry → Type 0
AreSettled kind sys [] [] = Unit {0}
AreSettled kind sys [] (e ∷ es) = ⊥
AreSettled kind sys (o ∷ os) [] = ⊥
AreSettled kind sys (o ∷ os) (e ∷ es) = (triple_of e ≡ triple o) × IsPairJudged kind sys o e.evidence None × AreSettled kind sys os es

-- the overlap should have had the next entry
abbrev pub IsMissing : Overlap → Rejection → Type 0
IsMissing o reason = reason ≡ pair_missing o.inner o.position o.outer

-- the first reason why not, where entries are numbered from n
abbrev pub AreNotSettled : Kind → System → ℕ → List Overlap → List PairEntry → Rejection → Type 0
AreNotSettled kind sys n [] [] reason = ⊥
AreNotSettled kind sys n [] (e ∷ es) reason = reason ≡ pair_extra n
AreNotSettled kind sys n (o ∷ os) [] reason = IsMissing o reason
AreNotSettled kind sys n (o ∷ os) (e ∷ es) reason =
    ((triple_of e ≢ triple o) × IsMissing o reason)
    ⊎ ((triple_of e ≡ triple o) × ((why : EvidenceReason) × IsPairJudged kind sys o e.evidence (Some why) × (reason ≡ evidence_fails n why)))
    ⊎ ((triple_of e ≡ triple o) × IsPairJudged kind sys o e.evidence None × AreNotSettled kind sys (suc n) os es reason)

-- the entries settle all overlaps of the system
abbrev pub DoSettle : Kind → System → List PairEntry → Type 0
DoSettle kind sys es = (os : List Overlap) × AreOverlaps sys os × AreSettled kind sys os es

-- the first reason why they do not: the overlaps have no list, or an entry is wrong
pub data DoNotSettle (kind : Kind) (sys : System) (es : List PairEntry) : Rejection → Type 0 where
  pair_is_large : (i : ℕ) (p : Position) (j : ℕ) → IsPairTooLarge sys i p j → DoNotSettle kind sys es (pair_large i p j)
  pairs_are_many : AreTooManyOverlaps sys → DoNotSettle kind sys es too_many_pairs
  entry_fails : (os : List Overlap) (reason : Rejection) → AreOverlaps sys os → AreNotSettled kind sys 1 os es reason → DoNotSettle kind sys es reason

-- numbers of 32 bits tell the steps of derivations in the evidence
abbrev pub IsPairShort : PairEvidence → Type 0
IsPairShort trivial_pair = Unit {0}
IsPairShort (infeasible_pair e) = Unit {0}
IsPairShort (conflicting_pair a b) = Unit {0}
IsPairShort (joined_pair d e) = IsShort d × IsShort e
IsPairShort (unfeasible_pair k d e) = IsShort d × IsShort e

abbrev pub ArePairsShort : List PairEntry → Type 0
ArePairsShort [] = Unit {0}
ArePairsShort (e ∷ es) = IsPairShort e.evidence × ArePairsShort es
