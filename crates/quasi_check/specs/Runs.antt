-- What a run over the entries of a certificate with a measure keeps and answers.
use Rattle.std.specs.Prelude.{◌≡◌, List, Result, Ok, Err}
use Rattle.rewriting.specs.Rules.{System}
use Rattle.unifier_run.specs.Overlaps.{Overlap, AreOverlaps}
use Rattle.interpretations.specs.Judgement.{Judgement, good}
use Rattle.certificates.specs.Certificates.{PairEntry}
use Rattle.cert_model.specs.ReasonView.{rejected_view}
use Rattle.cert_model.specs.declared.reasons.Rejected as reasons
use Rattle.validity.specs.declared.CheckError.{CheckError}
use Rattle.validity.specs.declared.CheckError.TheVariants.{Rejected, NoMemory}
use Rattle.valid_certificates.specs.Kinds.{quasi}
use Rattle.valid_certificates.specs.Confluence.{IsValidQuasi, IsQuasiRejected}
use Rattle.pair_check.specs.Runs.{HasTaken}
use Rattle.tallies.specs.Tally.{Tally, passed, failed}
use Rattle.tallies.specs.Runs.{PairRun}
use Rattle.quasi_check.specs.Parts.{AreRulesGood}

-- the tally of the entries
abbrev pub tally_of : Result PairRun reasons.Rejected → Tally
tally_of (Ok run) = run.tally
tally_of (Err reason) = failed (rejected_view reason)

-- a run over entries of the system, whose rules and measure are good; some entries have been taken
pub record IsPairRun (Is : Judgement → Type 0) (sys : System) (run : PairRun) : Type 0 where
  pub kind : run.kind ≡ quasi
  pub system : run.system ≡ sys
  pub rules : AreRulesGood sys
  pub measure : Is good
  pub taken : (es : List PairEntry) × HasTaken run es

-- such a run, or a reason for which any entries are rejected
abbrev pub AreHeld : (Judgement → Type 0) → System → Result PairRun reasons.Rejected → Type 0
AreHeld Is sys (Ok run) = IsPairRun Is sys run
AreHeld Is sys (Err reason) = (es : List PairEntry) → IsQuasiRejected Is sys es (rejected_view reason)

-- no entry has been taken yet, and the rules and the measure are good; or the reason for which any entries are rejected
abbrev pub StartAnswers : (Judgement → Type 0) → System → Result PairRun CheckError → Type 0
StartAnswers Is sys (Ok run) =
    AreRulesGood sys × (Is good × ((run ≡ record { kind = quasi; system = sys; tally = passed 0 }) × ((os : List Overlap) × AreOverlaps sys os)))
StartAnswers Is sys (Err (Rejected reason)) = (es : List PairEntry) → IsQuasiRejected Is sys es (rejected_view reason)
StartAnswers Is sys (Err NoMemory) = Unit {0}

-- the certificate with these entries is valid, or the first reason why it is not
abbrev pub QuasiFinish : (Judgement → Type 0) → System → List PairEntry → Result (Unit {0}) reasons.Rejected → Type 0
QuasiFinish Is sys es (Ok _) = IsValidQuasi Is sys es
QuasiFinish Is sys es (Err reason) = IsQuasiRejected Is sys es (rejected_view reason)
