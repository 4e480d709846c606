use Rattle.std.proofs.Common.{◌≤◌, ◌<◌, ◌-◌, ◌^◌, ℕ}
use Rattle.rewriting.specs.Variables.{occurrences}
use Rattle.term_core.specs.View.{view}
use Rattle.term_core.proofs.variables.is_linear.Given as goal

abbrev pub invariant-windows : goal.invariant-windows
invariant-windows l = (x : ℕ) → x < l.from → occurrences x (view l.t) ≤ 1

abbrev pub decreases-windows : goal.decreases-windows
decreases-windows l = 2 ^ 32 - l.from
