-- The run of the definitions that a `PairRun` stands for.
use Rattle.std.specs.Prelude.{ℕ, ◌≡◌, List, [], ◌∷◌, ◌++◌, length, Option, None, Some}
use Rattle.rewriting.specs.Rules.{System}
use Rattle.unifier_run.specs.Overlaps as math
use Rattle.unifier_run.specs.Overlaps.{AreOverlaps}
use Rattle.cert_model.specs.ReasonView.{rejected_view}
use Rattle.cert_model.specs.declared.reasons.Rejected.{Rejected}
use Rattle.critical_pairs.specs.Offers.{Search}
use Rattle.critical_pairs.specs.View.{overlap_view}
use Rattle.critical_pairs.specs.declared.Overlap.{Overlap}
use Rattle.validity.specs.KindView.{kind_view}
use Rattle.tallies.specs.Tally.{Tally, passed, failed}
use Rattle.tallies.specs.Runs.{PairRun}
use Rattle.pair_check.specs.Underway.{IsUnderway}
use Rattle.pair_check.specs.declared.run.PairRun.TheInside.{Inside}

-- so many entries have passed, or the reason that is kept
abbrev pub tally_view : ℕ → Option Rejected → Tally
tally_view n None = passed n
tally_view n (Some reason) = failed (rejected_view reason)

-- the kind, the system and the tally
abbrev pub run_view : Inside → PairRun
run_view r = record { kind = kind_view r.kind; system = r.sys.now; tally = tally_view r.taken r.failed }

-- so many overlaps are behind the run, and the search has offered these and the next one, if there is one
abbrev pub StandsBefore : System → Search → ℕ → Option Overlap → Type 0
StandsBefore sys s n (Some o) = (done : List math.Overlap) × (later : List math.Overlap) × (length done ≡ n) × IsUnderway sys s (done ++ overlap_view o ∷ []) later
StandsBefore sys s n None = (done : List math.Overlap) × (length done ≡ n) × AreOverlaps sys done

-- what a run keeps
pub record IsHeld (r : Inside) : Type 0 where
  pub stands : r.failed ≡ None → StandsBefore r.sys.now r.search r.taken r.next
