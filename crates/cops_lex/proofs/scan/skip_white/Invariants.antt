use Rattle.std.proofs.Common.{◌≡◌, ◌≤◌, ◌+◌, ◌-◌, length, drop}
use Rattle.file_text.specs.Bytes.{white_len}
use Rattle.cops_lex.proofs.scan.skip_white.Given as goal

abbrev pub invariant-white : goal.invariant-white
invariant-white l = record {
  counted : l.n + white_len (drop l.n l.bytes) ≡ white_len l.bytes;
  within : l.n ≤ length l.bytes;
}

abbrev pub decreases-white : goal.decreases-white
decreases-white l = length l.bytes - l.n
