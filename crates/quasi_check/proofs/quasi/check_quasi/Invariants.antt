use Rattle.std.proofs.Common.{◌≡◌, map, take}
use Rattle.cert_model.specs.CertificateView.{pair_entry_view}
use Rattle.tallies.specs.Tally.{IsQuasiTally}
use Rattle.quasi_check.proofs.quasi.check_quasi.Given as goal

abbrev pub invariant-loop-entry : goal.invariant-loop-entry
invariant-loop-entry g l = record {
  system : l.run.system ≡ l.fn.sys;
  measure : l.run.measure ≡ l.fn.measure;
  tally : IsQuasiTally (g.M.Measure.judged l.fn.measure l.fn.sys) l.fn.sys (map pair_entry_view (take l.entry-index l.pairs)) l.run.tally;
}
