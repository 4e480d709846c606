-- Sizes of terms.
use Rattle.std.proofs.Common.{◌≤◌, arith}
use Rattle.rewriting.specs.Terms.{Term, var, app, depth}

pub depth_positive : (t : Term) → 1 ≤ depth t
depth_positive (var x) = omega arith
depth_positive (app f ts) = omega arith
