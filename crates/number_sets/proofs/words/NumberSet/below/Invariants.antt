use Rattle.std.proofs.Common.{◌↔◌, ◌<◌, ℕ}
use Rattle.rewriting.specs.Lists.{IsAmong}
use Rattle.number_sets.specs.Sets.{members}
use Rattle.number_sets.proofs.words.NumberSet.below.Given as goal

abbrev pub invariant-loop-number : goal.invariant-loop-number
invariant-loop-number l = (q : ℕ) → IsAmong q (members l.set) ↔ (q < l.number)
