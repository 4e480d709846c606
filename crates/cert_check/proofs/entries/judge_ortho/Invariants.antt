use Rattle.std.proofs.Common.{◌≡◌, []}
use Rattle.tallies.specs.Tally.{IsOrthoTally}
use Rattle.cert_openings.specs.Openings.{Opening}
use Rattle.cert_text.specs.Reading.{HasRead}
use Rattle.cert_check.proofs.Reading.{AreTaken}
use Rattle.cert_check.proofs.entries.judge_ortho.Given as goal

abbrev pub invariant-entries : goal.invariant-entries
invariant-entries l = record {
  names : l.pairs.names ≡ l.fn.pairs.names;
  bytes : l.pairs.bytes ≡ l.fn.pairs.bytes;
  system : l.run.system ≡ l.fn.sys;
  taken : (o : Opening) → HasRead l.fn.pairs o [] → AreTaken l.pairs o l.counter (λ es. IsOrthoTally l.run.system es l.run.tally);
}
