-- Entries are taken one by one as redexes are met.
use Rattle.std.specs.Prelude.{ℕ, suc, ◌≡◌, ◌≢◌, ◌⊎◌, List, [], ◌∷◌, Option, None, Some, slice_get, Result, Ok, Err}
use Rattle.certificates.specs.Prelude.{Redex, InfeasibilityEvidence, EvidenceReason, Rejection, redex_fails}
use Rattle.cert_model.specs.ReasonView.{rejected_view}
use Rattle.validity.specs.declared.CheckError.{CheckError}
use Rattle.validity.specs.declared.CheckError.TheVariants.{Rejected, NoMemory}
use Rattle.valid_certificates.specs.Peaks.{RedexPlace, entry_place, IsMissed}

-- what is judged of evidence for a place
abbrev pub Judgement : Type 1
Judgement = RedexPlace → InfeasibilityEvidence → Option EvidenceReason → Type 0

-- the entry at a number, from 0, is for the place, and is judged
pub record IsEntry (J : Judgement) (es : List Redex) (at : ℕ) (r : RedexPlace) (o : Option EvidenceReason) : Type 0 where
  pub entry : Redex
  pub stands : slice_get es at ≡ Some entry
  pub place : entry_place entry ≡ r
  pub judged : J r entry.evidence o

-- no entry for the place stands there
abbrev pub IsAbsent : List Redex → ℕ → RedexPlace → Type 0
IsAbsent es at r = (e : Redex) → slice_get es at ≡ Some e → entry_place e ≢ r

-- the entries from one number up to another are for the places, with valid evidence
abbrev pub Pass : Judgement → List Redex → ℕ → List RedexPlace → ℕ → Type 0
Pass J es at [] after = at ≡ after
Pass J es at (r ∷ rs) after = IsEntry J es at r None × Pass J es (suc at) rs after

-- the first reason why the entries from a number on are not
abbrev pub Fail : Judgement → List Redex → ℕ → List RedexPlace → Rejection → Type 0
Fail J es at [] reason = ⊥
Fail J es at (r ∷ rs) reason =
    (IsAbsent es at r × IsMissed r reason)
    ⊎ ((why : EvidenceReason) × IsEntry J es at r (Some why) × (reason ≡ redex_fails (suc at) why))
    ⊎ (IsEntry J es at r None × Fail J es (suc at) rs reason)

-- the number of the next entry, or the first reason
abbrev pub PlacesAnswer : Judgement → List Redex → ℕ → List RedexPlace → Result ℕ CheckError → Type 0
PlacesAnswer J es at rs (Ok after) = Pass J es at rs after
PlacesAnswer J es at rs (Err (Rejected reason)) = Fail J es at rs (rejected_view reason)
PlacesAnswer J es at rs (Err NoMemory) = Unit {0}

-- the reason is that the redex should have had the next entry
abbrev pub MissedAnswers : RedexPlace → CheckError → Type 0
MissedAnswers r (Rejected reason) = IsMissed r (rejected_view reason)
MissedAnswers r NoMemory = Unit {0}
