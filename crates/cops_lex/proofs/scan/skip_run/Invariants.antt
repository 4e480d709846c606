use Rattle.std.proofs.Common.{◌≡◌, ◌≤◌, ◌+◌, ◌-◌, length, drop}
use Rattle.file_text.specs.Bytes.{run_len}
use Rattle.cops_lex.proofs.scan.skip_run.Given as goal

abbrev pub invariant-run : goal.invariant-run
invariant-run l = record {
  counted : l.n + run_len (drop l.n l.bytes) ≡ run_len l.bytes;
  within : l.n ≤ length l.bytes;
}

abbrev pub decreases-run : goal.decreases-run
decreases-run l = length l.bytes - l.n
