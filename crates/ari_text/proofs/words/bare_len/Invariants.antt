use Rattle.std.proofs.Common.{◌≡◌, ℕ, ◌<◌, true, get_or}
use Rattle.ari_text.specs.Spelling.{is_bare}
use Rattle.ari_text.proofs.words.bare_len.Given as goal

abbrev pub invariant-loop-i : goal.invariant-loop-i
invariant-loop-i l = (k : ℕ) → k < l.i → is_bare (get_or l.bytes k 0) ≡ true
