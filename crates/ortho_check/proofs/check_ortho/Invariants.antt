use Rattle.std.proofs.Common.{◌≡◌, map, take}
use Rattle.cert_model.specs.CertificateView.{pair_entry_view}
use Rattle.tallies.specs.Tally.{IsOrthoTally}
use Rattle.ortho_check.proofs.check_ortho.Given as goal

abbrev pub invariant-loop-entry : goal.invariant-loop-entry
invariant-loop-entry l = record {
  system : l.run.system ≡ l.fn.sys;
  tally : IsOrthoTally l.fn.sys (map pair_entry_view (take l.entry-index l.pairs)) l.run.tally;
}
