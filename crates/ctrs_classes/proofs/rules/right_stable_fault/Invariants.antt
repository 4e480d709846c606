use Rattle.std.proofs.Common.{ℕ, ◌<◌}
use Rattle.rewriting.specs.Prelude.{Condition, IsAt, IsStable}
use Rattle.term_core.specs.RuleView.{rule_view}
use Rattle.certificates.specs.Blames.{IsFresh}
use Rattle.ctrs_classes.proofs.rules.right_stable_fault.Given as goal

abbrev pub invariant-loop-i : goal.invariant-loop-i
invariant-loop-i l = (j : ℕ) (d : Condition) → j < l.i → IsAt (rule_view l.rule).conditions j d → IsFresh (rule_view l.rule) j d × IsStable l.sys d.right
