use Rattle.std.proofs.Common.{ℕ, ◌<◌}
use Rattle.rewriting.specs.Prelude.{Condition, IsAt, known, IsWithin}
use Rattle.term_core.specs.RuleView.{rule_view}
use Rattle.ctrs_classes.proofs.rules.known_prefix.Given as goal

abbrev pub invariant-loop-i : goal.invariant-loop-i
invariant-loop-i l = (j : ℕ) (d : Condition) → j < l.i → IsAt (rule_view l.rule).conditions j d → IsWithin d.left (known (rule_view l.rule) j)
