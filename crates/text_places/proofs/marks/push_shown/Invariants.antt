use Rattle.std.proofs.Common.{◌≡◌, ◌++◌, take, map}
use Rattle.text_places.specs.Marks.{shown}
use Rattle.text_places.proofs.marks.push_shown.Given as goal

abbrev pub invariant-loop-byte : goal.invariant-loop-byte
invariant-loop-byte l = l.out.items ≡ l.fn.out.items ++ map shown (take l.byte-index l.bytes)
