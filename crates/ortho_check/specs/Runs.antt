-- What a run over the entries of a certificate answers.
use Rattle.std.specs.Prelude.{◌≡◌, List, Result, Ok, Err}
use Rattle.rewriting.specs.Rules.{System}
use Rattle.certificates.specs.Certificates.{PairEntry}
use Rattle.cert_model.specs.ReasonView.{rejected_view}
use Rattle.cert_model.specs.declared.reasons.Rejected as reasons
use Rattle.valid_certificates.specs.Kinds.{ortho}
use Rattle.valid_certificates.specs.Confluence.{IsInOrthoClasses, IsValidOrtho, IsOrthoRejected}
use Rattle.validity.specs.declared.CheckError.{CheckError}
use Rattle.validity.specs.declared.CheckError.TheVariants.{Rejected, NoMemory}
use Rattle.unifier_run.specs.Overlaps.{Overlap, AreOverlaps}
use Rattle.pair_check.specs.Runs.{HasTaken}
use Rattle.tallies.specs.Tally.{passed}
use Rattle.tallies.specs.Runs.{PairRun}

-- a run over entries of the system, which is in the classes; some entries have been taken
pub record IsPairRun (sys : System) (run : PairRun) : Type 0 where
  pub kind : run.kind ≡ ortho
  pub system : run.system ≡ sys
  pub classes : IsInOrthoClasses sys
  pub taken : (es : List PairEntry) × HasTaken run es

-- no entry has been taken yet, and the system is in the classes; or the reason for which any entries are rejected
abbrev pub StartAnswers : System → Result PairRun CheckError → Type 0
StartAnswers sys (Ok run) = IsInOrthoClasses sys × ((run ≡ record { kind = ortho; system = sys; tally = passed 0 }) × ((os : List Overlap) × AreOverlaps sys os))
StartAnswers sys (Err (Rejected reason)) = (es : List PairEntry) → IsOrthoRejected sys es (rejected_view reason)
StartAnswers sys (Err NoMemory) = Unit {0}

-- the certificate with these entries is valid, or the first reason why it is not
abbrev pub OrthoFinish : System → List PairEntry → Result (Unit {0}) reasons.Rejected → Type 0
OrthoFinish sys es (Ok _) = IsValidOrtho sys es
OrthoFinish sys es (Err reason) = IsOrthoRejected sys es (rejected_view reason)
