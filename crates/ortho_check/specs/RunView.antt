-- The run that an `OrthoRun` stands for, and what it keeps.
use Rattle.std.specs.Prelude.{List, Result, Ok, Err}
use Rattle.rewriting.specs.Rules.{System}
use Rattle.certificates.specs.Certificates.{PairEntry}
use Rattle.cert_model.specs.ReasonView.{rejected_view}
use Rattle.cert_model.specs.declared.reasons.Rejected.{Rejected}
use Rattle.valid_certificates.specs.Confluence.{IsOrthoRejected}
use Rattle.infeasible.specs.Known.{IsKnown}
use Rattle.tallies.specs.Tally.{Tally, failed}
use Rattle.tallies.specs.Runs.{PairRun, OrthoRun}
use Rattle.ortho_check.specs.Runs.{IsPairRun}
use Rattle.ortho_check.specs.declared.run.OrthoRun.TheInside.{Inside}

-- the tally of the entries
abbrev pub tally_of : Result PairRun Rejected → Tally
tally_of (Ok run) = run.tally
tally_of (Err reason) = failed (rejected_view reason)

abbrev pub run_view : Inside → OrthoRun
run_view r = record { system = r.sys.now; tally = tally_of r.pairs }

-- a run over the system's entries, or a reason for which any entries are rejected
abbrev pub AreHeld : System → Result PairRun Rejected → Type 0
AreHeld sys (Ok run) = IsPairRun sys run
AreHeld sys (Err reason) = (es : List PairEntry) → IsOrthoRejected sys es (rejected_view reason)

-- and what the judge remembers is so of the system
abbrev pub IsHeld : Inside → Type 0
IsHeld r = AreHeld r.sys.now r.pairs × IsKnown r.judge r.sys.now
