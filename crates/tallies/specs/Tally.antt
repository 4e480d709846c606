-- What the entries of a certificate come to, taken one after the other.
use Rattle.std.specs.Prelude.{ℕ, suc, ◌≡◌, ◌≢◌, ◌⊎◌, List, [], ◌∷◌, None, Some}
use Rattle.rewriting.specs.Prelude.{System, IsDeterministic}
use Rattle.unifier_run.specs.Overlaps.{Overlap, triple, AreOverlaps}
use Rattle.interpretations.specs.Judgement.{Judgement, good}
use Rattle.certificates.specs.Prelude.{PairEntry, EvidenceReason, Rejection, pair_missing, pair_extra, evidence_fails}
use Rattle.valid_certificates.specs.Kinds.{Kind, ortho, quasi}
use Rattle.valid_certificates.specs.PairEvidence.{IsPairJudged}
use Rattle.valid_certificates.specs.Entries.{triple_of}
use Rattle.valid_certificates.specs.Confluence.{IsInOrthoClasses, IsOrthoRejected, AreRightSidesIrreducible, IsQuasiRejected}

-- so many entries, each of which settles its overlap, or the first reason why not
pub data Tally : Type 0 where
  passed : ℕ → Tally
  failed : Rejection → Tally

-- what entries for these overlaps come to behind so many others; no overlap is missed behind the last of them
abbrev pub AreTallied : Kind → System → ℕ → List Overlap → List PairEntry → Tally → Type 0
AreTallied kind sys n os [] t = t ≡ passed n
AreTallied kind sys n [] (e ∷ es) t = t ≡ failed (pair_extra (suc n))
AreTallied kind sys n (o ∷ os) (e ∷ es) t =
    ((triple_of e ≢ triple o) × (t ≡ failed (pair_missing o.inner o.position o.outer)))
    ⊎ ((triple_of e ≡ triple o) × ((why : EvidenceReason) × IsPairJudged kind sys o e.evidence (Some why) × (t ≡ failed (evidence_fails (suc n) why))))
    ⊎ ((triple_of e ≡ triple o) × IsPairJudged kind sys o e.evidence None × AreTallied kind sys (suc n) os es t)

-- what entries come to in a certificate: a reason for which it is rejected whatever its entries are, or, where what is judged
-- before them holds, what they come to for the overlaps of the system
pub data IsTally (kind : Kind) (sys : System) (Before : Type 0) (IsRejected : List PairEntry → Rejection → Type 0) (es : List PairEntry) : Tally → Type 0 where
  whatever_they_are : (reason : Rejection) → ((fs : List PairEntry) → IsRejected fs reason) → IsTally kind sys Before IsRejected es (failed reason)
  one_by_one : (os : List Overlap) (t : Tally) → Before → AreOverlaps sys os → AreTallied kind sys 0 os es t → IsTally kind sys Before IsRejected es t

-- of a certificate of an almost orthogonal system
abbrev pub IsOrthoTally : System → List PairEntry → Tally → Type 0
IsOrthoTally sys es t = IsTally ortho sys (IsInOrthoClasses sys) (IsOrthoRejected sys) es t

-- of a certificate with a measure, which is judged by `Is`
abbrev pub IsQuasiTally : (Judgement → Type 0) → System → List PairEntry → Tally → Type 0
IsQuasiTally Is sys es t = IsTally quasi sys (IsDeterministic sys × AreRightSidesIrreducible sys × Is good) (IsQuasiRejected Is sys) es t
