-- What the check of a certificate answers.
use Rattle.std.specs.Prelude.{List, Result, Ok, Err}
use Rattle.rewriting.specs.Rules.{System}
use Rattle.certificates.specs.Certificates.{Peak, PairEntry}
use Rattle.interpretations.specs.Judgement.{Judgement}
use Rattle.cert_model.specs.ReasonView.{rejected_view}
use Rattle.validity.specs.declared.CheckError.{CheckError}
use Rattle.validity.specs.declared.CheckError.TheVariants.{Rejected, NoMemory}
use Rattle.valid_certificates.specs.Kinds.{Kind}
use Rattle.valid_certificates.specs.Peaks.{IsValidPeak, IsPeakRejected}
use Rattle.valid_certificates.specs.Entries.{DoSettle, DoNotSettle}
use Rattle.valid_certificates.specs.Confluence.{IsValidOrtho, IsOrthoRejected, IsValidQuasi, IsQuasiRejected}

-- the peak is valid, or the first reason why it is not
abbrev pub PeakAnswers : System → Peak → Result (Unit {0}) CheckError → Type 0
PeakAnswers sys peak (Ok _) = IsValidPeak sys peak
PeakAnswers sys peak (Err (Rejected reason)) = IsPeakRejected sys peak (rejected_view reason)
PeakAnswers sys peak (Err NoMemory) = Unit {0}

-- the entries settle all overlaps, or the first reason why they do not
abbrev pub SettleAnswers : Kind → System → List PairEntry → Result (Unit {0}) CheckError → Type 0
SettleAnswers kind sys es (Ok _) = DoSettle kind sys es
SettleAnswers kind sys es (Err (Rejected reason)) = DoNotSettle kind sys es (rejected_view reason)
SettleAnswers kind sys es (Err NoMemory) = Unit {0}

-- the certificate of an almost orthogonal system is valid, or the first reason why it is not
abbrev pub OrthoAnswers : System → List PairEntry → Result (Unit {0}) CheckError → Type 0
OrthoAnswers sys es (Ok _) = IsValidOrtho sys es
OrthoAnswers sys es (Err (Rejected reason)) = IsOrthoRejected sys es (rejected_view reason)
OrthoAnswers sys es (Err NoMemory) = Unit {0}

-- the certificate of a system with a measure is valid, or the first reason why it is not
abbrev pub QuasiAnswers : (Judgement → Type 0) → System → List PairEntry → Result (Unit {0}) CheckError → Type 0
QuasiAnswers Is sys es (Ok _) = IsValidQuasi Is sys es
QuasiAnswers Is sys es (Err (Rejected reason)) = IsQuasiRejected Is sys es (rejected_view reason)
QuasiAnswers Is sys es (Err NoMemory) = Unit {0}
