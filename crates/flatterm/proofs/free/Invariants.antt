use Rattle.std.proofs.Common.{◌≡◌, length}
use Rattle.flatterm.proofs.free.Given as goal

abbrev pub invariant-cells : goal.invariant-cells
invariant-cells l = l.chain.place ≡ 0

abbrev pub decreases-cells : goal.decreases-cells
decreases-cells l = length l.chain.items
