use Rattle.std.proofs.Common.{◌≡◌, take, replicate}
use Rattle.tree_automata.proofs.accepts.are_zeros.Given as goal

abbrev pub invariant-loop-number : goal.invariant-loop-number
invariant-loop-number l = take l.number-index l.numbers ≡ replicate l.number-index 0
