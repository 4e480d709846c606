use Rattle.std.proofs.Common.{ℕ, ◌≤◌, ◌≡◌, Some}
use Rattle.rewriting.specs.Rules.{Rule, rule_at}
use Rattle.quasi_check.specs.Sides.{DoSidesClash}
use Rattle.quasi_check.proofs.sides.first_reducible.Given as goal

abbrev pub invariant-loop-i : goal.invariant-loop-i
invariant-loop-i l = (j : ℕ) (r : Rule) → j ≤ l.i → rule_at l.sys j ≡ Some r → DoSidesClash l.sys r.conditions
