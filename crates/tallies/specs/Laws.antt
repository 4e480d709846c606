-- Each list of entries of a certificate has one tally, and what it tells.
use Rattle.std.specs.Prelude.{◌≡◌, List, [], ◌∷◌, ◌++◌, length}
use Rattle.rewriting.specs.Rules.{System}
use Rattle.unifier_run.specs.Overlaps.{Overlap, AreOverlaps}
use Rattle.certificates.specs.Prelude.{PairEntry, MeasureCertificate, Rejection, pair_missing, pair_extra}
use Rattle.valid_certificates.specs.Kinds.{Kind}
use Rattle.valid_certificates.specs.Confluence.{IsValidOrtho, IsOrthoRejected, IsValidQuasi, IsQuasiRejected}
use Rattle.valid_certificates.specs.Certificates.{IsMeasureJudged}
use Rattle.tallies.specs.Tally.{Tally, passed, failed, AreTallied, IsOrthoTally, IsQuasiTally}

-- each list of entries has one tally, and no other
pub record HaveOneTally (IsTallied : List PairEntry → Tally → Type 0) : Type 0 where
  pub one : (es : List PairEntry) (t u : Tally) → IsTallied es t → IsTallied es u → t ≡ u
  pub some : (es : List PairEntry) → (t : Tally) × IsTallied es t

-- so it is in certificates of almost orthogonal systems
abbrev pub OrthoEntriesHaveOneTally : Type 0
OrthoEntriesHaveOneTally = (sys : System) → HaveOneTally (IsOrthoTally sys)

-- and in certificates with a measure
abbrev pub QuasiEntriesHaveOneTally : Type 0
QuasiEntriesHaveOneTally = (sys : System) (m : MeasureCertificate) → HaveOneTally (IsQuasiTally (IsMeasureJudged sys m) sys)

-- a tally that has failed tells why a certificate with these entries is rejected; if as many pass as there are overlaps, it is
-- valid; if fewer pass, the next overlap is missing
pub record TellsAnswer (sys : System) (IsTallied : List PairEntry → Tally → Type 0) (IsValid : List PairEntry → Type 0) (IsRejected : List PairEntry → Rejection → Type 0) : Type 0 where
  pub fails : (es : List PairEntry) (r : Rejection) → IsTallied es (failed r) → IsRejected es r
  pub passes : (es : List PairEntry) (os : List Overlap) → AreOverlaps sys os → IsTallied es (passed (length os)) → IsValid es
  pub misses : (es : List PairEntry) (front rest : List Overlap) (o : Overlap) → AreOverlaps sys (front ++ o ∷ rest) → IsTallied es (passed (length front))
      → IsRejected es (pair_missing o.inner o.position o.outer)

-- so it is in certificates of almost orthogonal systems
abbrev pub OrthoTalliesTell : Type 0
OrthoTalliesTell = (sys : System) → TellsAnswer sys (IsOrthoTally sys) (IsValidOrtho sys) (IsOrthoRejected sys)

-- and in certificates with a measure
abbrev pub QuasiTalliesTell : Type 0
QuasiTalliesTell =
    (sys : System) (m : MeasureCertificate)
    → TellsAnswer sys (IsQuasiTally (IsMeasureJudged sys m) sys) (IsValidQuasi (IsMeasureJudged sys m) sys) (IsQuasiRejected (IsMeasureJudged sys m) sys)

-- where there is no entry, none has failed
abbrev pub NoEntriesPass : Type 0
NoEntriesPass = (kind : Kind) (sys : System) (os : List Overlap) → AreTallied kind sys 0 os [] (passed 0)

-- where there is no overlap, the first entry is one too many
abbrev pub FirstEntryIsExtra : Type 0
FirstEntryIsExtra = (kind : Kind) (sys : System) (e : PairEntry) → AreTallied kind sys 0 [] (e ∷ []) (failed (pair_extra 1))
