use Rattle.std.proofs.Common.{◌≡◌, []}
use Rattle.cert_model.specs.CertificateView.{measure_view}
use Rattle.valid_certificates.specs.Certificates.{IsMeasureJudged}
use Rattle.tallies.specs.Tally.{IsQuasiTally}
use Rattle.cert_openings.specs.Openings.{Opening}
use Rattle.cert_text.specs.Reading.{HasRead}
use Rattle.cert_check.proofs.Reading.{AreTaken}
use Rattle.cert_check.proofs.entries.judge_quasi.Given as goal

abbrev pub invariant-entries : goal.invariant-entries
invariant-entries l = record {
  names : l.pairs.names ≡ l.fn.pairs.names;
  bytes : l.pairs.bytes ≡ l.fn.pairs.bytes;
  system : l.run.system ≡ l.fn.sys;
  measure : measure_view l.fn.measure ≡ measure_view l.run.measure.measure.now;
  taken : (o : Opening) → HasRead l.fn.pairs o [] → AreTaken l.pairs o l.counter
      (λ es. IsQuasiTally (IsMeasureJudged l.run.system (measure_view l.run.measure.measure.now)) l.run.system es l.run.tally);
}
