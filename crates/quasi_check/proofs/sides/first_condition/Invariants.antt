use Rattle.std.proofs.Common.{ℕ, ◌<◌, map}
use Rattle.rewriting.specs.Prelude.{Condition, IsAt}
use Rattle.unifier_run.specs.Irreducible.{DoAllClash}
use Rattle.term_core.specs.RuleView.{condition_view}
use Rattle.quasi_check.proofs.sides.first_condition.Given as goal

abbrev pub invariant-loop-k : goal.invariant-loop-k
invariant-loop-k l = (n : ℕ) (c : Condition) → n < l.k → IsAt (map condition_view l.conds) n c → DoAllClash l.sys c.right
