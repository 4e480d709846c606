use Rattle.std.proofs.Common.{ℕ, suc, ◌<◌, ◌≤◌, get_or}
use Rattle.linear_interp.proofs.rules.first_smaller.Given as goal

abbrev pub invariant-loop-x : goal.invariant-loop-x
invariant-loop-x l = (y : ℕ) → suc y < l.x → get_or l.right (suc y) 0 ≤ get_or l.left (suc y) 0
