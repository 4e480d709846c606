-- What a run over the entries of a certificate answers.
use Rattle.std.specs.Prelude.{◌≡◌, List, [], ◌∷◌, ◌++◌, Result, Ok, Err}
use Rattle.rewriting.specs.Rules.{System}
use Rattle.unifier_run.specs.Overlaps.{Overlap, AreOverlaps}
use Rattle.certificates.specs.Certificates.{PairEntry}
use Rattle.cert_model.specs.ReasonView.{rejected_view}
use Rattle.cert_model.specs.declared.reasons.Rejected as reasons
use Rattle.valid_certificates.specs.Kinds.{Kind}
use Rattle.valid_certificates.specs.Entries.{DoSettle, DoNotSettle}
use Rattle.validity.specs.declared.CheckError.{CheckError}
use Rattle.validity.specs.declared.CheckError.TheVariants.{Rejected, NoMemory}
use Rattle.tallies.specs.Tally.{passed, AreTallied}
use Rattle.tallies.specs.Runs.{PairRun}

-- no entry has been taken yet; or the reason for which any entries are rejected
abbrev pub StartAnswers : Kind → System → Result PairRun CheckError → Type 0
StartAnswers kind sys (Ok run) = (run ≡ record { kind = kind; system = sys; tally = passed 0 }) × ((os : List Overlap) × AreOverlaps sys os)
StartAnswers kind sys (Err (Rejected reason)) = (es : List PairEntry) → DoNotSettle kind sys es (rejected_view reason)
StartAnswers kind sys (Err NoMemory) = Unit {0}

-- the entries have the tally of the run
abbrev pub HasTaken : PairRun → List PairEntry → Type 0
HasTaken run es = (os : List Overlap) × AreOverlaps run.system os × AreTallied run.kind run.system 0 os es run.tally

-- the tally of entries becomes that of the entries with one more behind them
pub record DoesTake (before : PairRun) (e : PairEntry) (after : PairRun) : Type 0 where
  pub kind : after.kind ≡ before.kind
  pub system : after.system ≡ before.system
  pub tally : (os : List Overlap) (es : List PairEntry) → AreOverlaps before.system os → AreTallied before.kind before.system 0 os es before.tally
      → AreTallied before.kind before.system 0 os (es ++ e ∷ []) after.tally

-- the entries settle all overlaps, or the first reason why they do not
abbrev pub FinishAnswers : Kind → System → List PairEntry → Result (Unit {0}) reasons.Rejected → Type 0
FinishAnswers kind sys es (Ok _) = DoSettle kind sys es
FinishAnswers kind sys es (Err reason) = DoNotSettle kind sys es (rejected_view reason)
