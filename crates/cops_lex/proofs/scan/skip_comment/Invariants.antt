use Rattle.std.proofs.Common.{◌≡◌, ◌≤◌, ◌+◌, ◌-◌, length, drop, option_map}
use Rattle.file_text.specs.Bytes.{closing_len, comment_len}
use Rattle.cops_lex.proofs.scan.skip_comment.Given as goal

abbrev pub invariant-comment : goal.invariant-comment
invariant-comment l = record {
  counted : option_map (λ k. l.n + k) (closing_len l.count (drop l.n l.bytes)) ≡ comment_len l.bytes;
  within : l.n ≤ length l.bytes;
  few : l.count ≤ l.n;
}

abbrev pub decreases-comment : goal.decreases-comment
decreases-comment l = length l.bytes - l.n
