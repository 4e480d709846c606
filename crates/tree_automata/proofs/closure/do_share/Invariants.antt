use Rattle.std.proofs.Common.{ℕ, take}
use Rattle.rewriting.specs.Lists.{IsAmong}
use Rattle.tree_automata.proofs.closure.do_share.Given as goal

abbrev pub invariant-loop-x : goal.invariant-loop-x
invariant-loop-x l = (x : ℕ) → IsAmong x (take l.x-index l.first) → IsAmong x l.second → ⊥
